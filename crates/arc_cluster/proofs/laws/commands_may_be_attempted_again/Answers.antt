use Rattle.arc_cluster.proofs.Placing.{may_be_attempted_again}
use Rattle.arc_cluster.proofs.laws.commands_may_be_attempted_again.Goals as goal

pub returns : goal.returns
returns g c = let disk = g.D.Disk in may_be_attempted_again disk.faults disk.stops_in disk.is_tame
