use Rattle.std.proofs.Common.{refl, subst}
use Rattle.arc_node.specs.Node.{disk_in}
use Rattle.arc_drill.specs.Steps.{Learns}
use Rattle.arc_drill.proofs.Disks.{since_same}
use Rattle.arc_drill.proofs.Turns.{learns}
use Rattle.arc_drill.proofs.learning.learn.Goals as goal

pub returns-in-Err-clause-since : goal.returns-in-Err-clause-since
returns-in-Err-clause-since g c =
    let disk = g.D.Disk in
    since_same disk.moment disk.faults disk.stops_in disk.is_tame (disk_in c.args.node.now) (disk_in c.args.node.now) refl

pub returns-in-Ok-clause-learns : goal.returns-in-Ok-clause-learns
returns-in-Ok-clause-learns g c =
    let disk = g.D.Disk in
    let old = c.args.node.now in
    let new = c.tell.new.node in
    subst (λ x. Learns disk.faults old new c.args.slot x c.tell.result) c.in-Ok.ensures
    (learns disk.tells disk.content disk.may_leave disk.faults old new c.args.slot c.in-Ok.command c.requires.at_the_end c.requires.up c.tell.ensures.same c.tell.ensures.in_order c.tell.result c.tell.ensures.handles)
