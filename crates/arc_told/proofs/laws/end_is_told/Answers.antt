use Rattle.arc_told.proofs.Ending.{end_told}
use Rattle.arc_told.proofs.laws.end_is_told.Goals as goal

-- after each step
pub returns : goal.returns
returns c = end_told
