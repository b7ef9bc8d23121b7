use Rattle.arc_told.proofs.History.{history_told}
use Rattle.arc_told.proofs.laws.history_is_told.Goals as goal

-- after each step
pub returns : goal.returns
returns c = history_told
