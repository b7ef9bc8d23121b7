use Rattle.arc_told.proofs.Delivering.{deliveries_told}
use Rattle.arc_told.proofs.laws.deliveries_are_told.Goals as goal

-- after each step
pub returns : goal.returns
returns c = deliveries_told
