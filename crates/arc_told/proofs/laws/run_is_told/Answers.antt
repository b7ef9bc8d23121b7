use Rattle.arc_told.proofs.Whole.{run_told}
use Rattle.arc_told.proofs.laws.run_is_told.Goals as goal

-- by the parts
pub returns : goal.returns
returns c = run_told
