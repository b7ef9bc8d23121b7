use Rattle.arc_node.specs.Node.{disk_in}
use Rattle.arc_drill.proofs.Disks.{since_crash, since_then}
use Rattle.arc_drill.proofs.Starts.{started_since}
use Rattle.arc_drill.proofs.starting.start_again.Goals as goal

pub returns-then-not-is_up-clause-starts : goal.returns-then-not-is_up-clause-starts
returns-then-not-is_up-clause-starts g c =
    let disk = g.D.Disk in
    started_since c.args.node.now c.crash.new.self c.reopen.new.node c.crash.ensures.kept c.crash.ensures.same disk.tells disk.faults c.reopen.result c.crash.ensures.no_call.count c.reopen.ensures.starts

pub returns-then-not-is_up-clause-since : goal.returns-then-not-is_up-clause-since
returns-then-not-is_up-clause-since g c =
    let disk = g.D.Disk in
    since_then disk.moment disk.faults disk.stops_in disk.is_tame (disk_in c.args.node.now) (disk_in c.crash.new.self) (disk_in c.reopen.new.node)
    (since_crash disk.moment disk.faults disk.stops_in disk.is_tame (disk_in c.args.node.now) (disk_in c.crash.new.self) c.crash.ensures.no_call c.crash.ensures.stop)
    c.reopen.ensures.since
