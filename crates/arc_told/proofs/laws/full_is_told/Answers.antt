use Rattle.arc_told.proofs.Full.{full_told}
use Rattle.arc_told.proofs.laws.full_is_told.Goals as goal

-- after each step
pub returns : goal.returns
returns c = full_told
