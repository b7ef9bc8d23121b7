use Rattle.arc_told.proofs.Places.{places_told}
use Rattle.arc_told.proofs.laws.places_are_told.Goals as goal

-- after each step
pub returns : goal.returns
returns c = places_told
