use Rattle.arc_told.proofs.Growing.{moves_grow}
use Rattle.arc_told.proofs.laws.journals_only_grow.Goals as goal

-- by each kind of step
pub returns : goal.returns
returns c = moves_grow
