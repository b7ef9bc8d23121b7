-- Where votes are in place, they are so behind a start.
use Rattle.std.proofs.Common.{◌+◌, inl, refl, rules}
use Rattle.arc_node.specs.declared.node.Node.{Node}
use Rattle.arc_node.specs.declared.restart.Restart.TheVariants as ends
use Rattle.arc_node.specs.declared.standing.Standing.TheVariants.{Down, Up}
use Rattle.arc_node.specs.Node.{kept}
use Rattle.arc_node.specs.Starting.{Starts}
use Rattle.arc_node.proofs.InPlace.{started_in_place}
use Rattle.arc_node.proofs.node.Node.wake.Goals as goal

pub returns-in-Done-clause-in_place : goal.returns-in-Done-clause-in_place
returns-in-Done-clause-in_place g c = λ before.
    let faults = g.D.Disk.faults in
    let old = c.args.self.now in
    let new : Node g.row.D.Denot = record { journal = c.append.new.journal; entries = c.append.new.self; doubt = old.doubt; standing = Up } in
    let starts : Starts faults old new (kept old) (ends.Up (c.opened_count-inc.result + 1)) = search rules in
    started_in_place old new before faults (kept old) (before (kept old) (inl refl)) (ends.Up (c.opened_count-inc.result + 1)) starts

pub returns-in-Doubtful-clause-in_place : goal.returns-in-Doubtful-clause-in_place
returns-in-Doubtful-clause-in_place g c = λ before.
    let faults = g.D.Disk.faults in
    let old = c.args.self.now in
    let new : Node g.row.D.Denot = record { journal = c.append.new.journal; entries = c.append.new.self; doubt = c.put.new.doubt; standing = Down } in
    let starts : Starts faults old new (kept old) ends.Disk = search rules in
    started_in_place old new before faults (kept old) (before (kept old) (inl refl)) ends.Disk starts
