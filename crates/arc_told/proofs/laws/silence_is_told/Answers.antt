use Rattle.arc_told.proofs.Silence.{enough_told}
use Rattle.arc_told.proofs.laws.silence_is_told.Goals as goal

-- by what is shown of silences after each step
pub returns : goal.returns
returns c = enough_told
