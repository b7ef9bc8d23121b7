use Rattle.arc_told.proofs.Idle.{idle_goes}
use Rattle.arc_told.proofs.laws.idle_calls_go.Goals as goal

-- by an identifier of a start that is to come
pub returns : goal.returns
returns c = idle_goes
