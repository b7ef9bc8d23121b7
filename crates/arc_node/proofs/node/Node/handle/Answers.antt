-- Where votes are in place, they are so behind what the table appends. What is answered comes from entries within their limits.
use Rattle.std.proofs.Common.{subst}
use Rattle.arc_node.specs.Handling.{EndsHandling}
use Rattle.arc_node.specs.declared.handle_end.HandleEnd.{HandleEnd}
use Rattle.arc_node.proofs.InPlace.{handled_in_place}
use Rattle.arc_node.proofs.Telling.{told_valid}
use Rattle.arc_node.proofs.node.Node.handle.Goals as goal

pub returns-in-Up-clause-in_place : goal.returns-in-Up-clause-in_place
returns-in-Up-clause-in_place g c = λ before.
    handled_in_place c.args.self.now c.take_turn.new.self before g.D.Disk.faults c.args.message.now c.take_turn.result c.take_turn.ensures.handles

pub returns-in-Up-clause-valid : goal.returns-in-Up-clause-valid
returns-in-Up-clause-valid g c = λ reply is.
    let old = c.args.self.now in
    let new = c.take_turn.new.self in
    let faults = g.D.Disk.faults in
    told_valid faults old new c.args.message.now reply c.requires.in_order.limits
    (subst (λ (end : HandleEnd). EndsHandling faults old new c.args.message.now end) is c.take_turn.ensures.handles)
