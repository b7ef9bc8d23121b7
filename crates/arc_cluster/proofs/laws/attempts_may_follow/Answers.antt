use Rattle.arc_cluster.proofs.Placing.{attempts_may_follow}
use Rattle.arc_cluster.proofs.laws.attempts_may_follow.Goals as goal

pub returns : goal.returns
returns g c =
    let disk = g.D.Disk in
    let courier = g.C.Courier in
    attempts_may_follow disk.faults disk.stops_in disk.is_tame courier.troubles courier.is_silent
