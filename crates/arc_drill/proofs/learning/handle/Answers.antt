use Rattle.std.proofs.Common.{inl, refl}
use Rattle.arc_node.specs.Node.{disk_in, kept}
use Rattle.arc_drill.proofs.Disks.{since_handled}
use Rattle.arc_drill.proofs.learning.handle.Goals as goal

pub returns-clause-since : goal.returns-clause-since
returns-clause-since g c =
    let disk = g.D.Disk in
    let old = c.args.node.now in
    let new = c.handle-end.new.self in
    since_handled disk.moment disk.faults disk.stops_in disk.is_tame (kept old) (kept new) (disk_in old) (disk_in new) c.handle-end.result c.handle-end.ensures.calls

pub returns-clause-handles : goal.returns-clause-handles
returns-clause-handles g c = (c.handle-end.result, c.learned_of-learned.ensures, c.handle-end.ensures.handles)

pub handle-end-requires-clause-in_place : goal.handle-end-requires-clause-in_place
handle-end-requires-clause-in_place g c = c.requires.in_place (kept c.args.node.now) (inl refl)
