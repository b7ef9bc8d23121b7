use Rattle.arc_told.proofs.Owing.{unavailable_told}
use Rattle.arc_told.proofs.laws.unavailable_is_told.Goals as goal

-- after each step
pub returns : goal.returns
returns c = unavailable_told
