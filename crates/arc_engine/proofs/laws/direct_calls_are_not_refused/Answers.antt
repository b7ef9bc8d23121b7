use Rattle.arc_engine.proofs.Direct.{direct_calls_are_not_refused}
use Rattle.arc_engine.proofs.laws.direct_calls_are_not_refused.Goals as goal

pub returns : goal.returns
returns g c = let disk = g.D.Disk in direct_calls_are_not_refused disk.faults disk.stops_in disk.is_tame
