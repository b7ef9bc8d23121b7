use Rattle.std.proofs.Common.{subst}
use Rattle.arc_cluster.specs.Cluster.{held_in}
use Rattle.arc_cluster.specs.Handling.{AllAnswer, AllHandle, lent_to}
use Rattle.arc_cluster.specs.Moments.{AllLeaveFronts}
use Rattle.arc_cluster.proofs.Following.{held_by_handling}
use Rattle.arc_cluster.proofs.cluster.Cluster.phase.Goals as goal

pub returns-in-Ok-clause-in_order : goal.returns-in-Ok-clause-in_order
returns-in-Ok-clause-in_order g c =
    let old = c.args.self.now in
    let each = c.handle_each.ensures in
    record {
      nodes = each.in_order;
      held = held_by_handling g.D.Disk.faults old.nodes c.handle_each.new.nodes (lent_to c.lend_mail.result) (held_in old) each.handle each.same c.requires.in_order.held;
    }

pub returns-in-Ok-clause-handle : goal.returns-in-Ok-clause-handle
returns-in-Ok-clause-handle g c =
    subst (AllHandle g.D.Disk.faults c.args.self.now.nodes c.handle_each.new.nodes) c.lend_mail.ensures c.handle_each.ensures.handle

pub returns-in-Ok-clause-answer : goal.returns-in-Ok-clause-answer
returns-in-Ok-clause-answer g c =
    subst (λ mail. AllAnswer c.args.self.now.nodes c.handle_each.new.nodes mail c.handle_each.new.answers) c.lend_mail.ensures c.in-Ok.ensures.answer

pub returns-in-Ok-clause-fronts : goal.returns-in-Ok-clause-fronts
returns-in-Ok-clause-fronts g c = λ told.
    subst (AllLeaveFronts g.D.Disk.moment g.D.Disk.left_since c.args.self.now.nodes c.handle_each.new.nodes) c.lend_mail.ensures (c.handle_each.ensures.fronts told)

pub returns-in-Err-clause-in_order : goal.returns-in-Err-clause-in_order
returns-in-Err-clause-in_order g c =
    let old = c.args.self.now in
    let each = c.handle_each.ensures in
    record {
      nodes = each.in_order;
      held = held_by_handling g.D.Disk.faults old.nodes c.handle_each.new.nodes (lent_to c.lend_mail.result) (held_in old) each.handle each.same c.requires.in_order.held;
    }

pub returns-in-Err-clause-handle : goal.returns-in-Err-clause-handle
returns-in-Err-clause-handle g c =
    subst (AllHandle g.D.Disk.faults c.args.self.now.nodes c.handle_each.new.nodes) c.lend_mail.ensures c.handle_each.ensures.handle

pub returns-in-Err-clause-fronts : goal.returns-in-Err-clause-fronts
returns-in-Err-clause-fronts g c = λ told.
    subst (AllLeaveFronts g.D.Disk.moment g.D.Disk.left_since c.args.self.now.nodes c.handle_each.new.nodes) c.lend_mail.ensures (c.handle_each.ensures.fronts told)
