use Rattle.std.proofs.Common.{sym, subst}
use Rattle.arc_node.specs.Node.{disk_in}
use Rattle.arc_drill.specs.Steps.{StartsAgain}
use Rattle.arc_drill.proofs.Disks.{since_started}
use Rattle.arc_drill.proofs.Starts.{reads_own, reopened}
use Rattle.arc_drill.proofs.starting.reopen.Goals as goal

pub returns-clause-starts : goal.returns-clause-starts
returns-clause-starts g c =
    let disk = g.D.Disk in
    let old = c.args.node.now in
    let new = c.restart-end.new.self in
    subst (StartsAgain disk.tells disk.faults old new) (sym c.end_of-start.ensures)
    (reopened disk.tells disk.content disk.faults old new c.restart-end.result c.restart-end.ensures.restarts
    (λ told. c.restart-end.ensures.honest told (reads_own disk.tells disk.content disk.may_leave g.met.D.Disk.reads_as_left old c.requires.in_order told)))

pub returns-clause-since : goal.returns-clause-since
returns-clause-since g c =
    let disk = g.D.Disk in
    since_started disk.moment disk.faults disk.stops_in disk.is_tame 3 (disk_in c.args.node.now) (disk_in c.restart-end.new.self) c.restart-end.result c.restart-end.ensures.calls
