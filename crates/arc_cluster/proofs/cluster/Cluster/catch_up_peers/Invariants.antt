use Rattle.arc_cluster.proofs.CatchingUp.{CatchingUp, all_left}
use Rattle.arc_cluster.proofs.cluster.Cluster.catch_up_peers.Given as goal

-- how the cluster went on so far
abbrev pub invariant-loop-alloc : goal.invariant-loop-alloc
invariant-loop-alloc g l =
    let disk = g.D.Disk in
    let courier = g.C.Courier in
    CatchingUp disk.tells disk.content disk.may_leave disk.faults disk.stops_in disk.is_tame courier.troubles courier.asked
    courier.is_silent
    l.fn.self l.self l.fn.work l.work

-- the exchanges that are left
abbrev pub decreases-loop-alloc : goal.decreases-loop-alloc
decreases-loop-alloc g l = all_left l.work
