use Rattle.arc_told.proofs.Down.{down_told}
use Rattle.arc_told.proofs.laws.down_is_told.Goals as goal

-- by what is shown of the five after each step
pub returns : goal.returns
returns c = down_told
