use Rattle.arc_told.proofs.Complete.{each_is_told}
use Rattle.arc_told.proofs.laws.placed_calls_are_all.Goals as goal

-- by the step that each place comes from
pub returns : goal.returns
returns c = each_is_told
