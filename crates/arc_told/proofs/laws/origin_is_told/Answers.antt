use Rattle.arc_told.proofs.Timely.{origin_told}
use Rattle.arc_told.proofs.laws.origin_is_told.Goals as goal

-- by the parts
pub returns : goal.returns
returns c = origin_told
