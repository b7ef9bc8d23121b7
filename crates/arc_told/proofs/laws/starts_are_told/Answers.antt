use Rattle.arc_told.proofs.Starts.{starts_told}
use Rattle.arc_told.proofs.laws.starts_are_told.Goals as goal

-- after each step
pub returns : goal.returns
returns c = starts_told
