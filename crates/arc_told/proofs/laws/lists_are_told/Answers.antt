use Rattle.arc_told.proofs.Lists.{lists_told}
use Rattle.arc_told.proofs.laws.lists_are_told.Goals as goal

-- after each step
pub returns : goal.returns
returns c = lists_told
