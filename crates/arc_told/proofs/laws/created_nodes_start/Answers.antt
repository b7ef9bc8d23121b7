use Rattle.arc_told.proofs.Created.{created_start}
use Rattle.arc_told.proofs.laws.created_nodes_start.Goals as goal

-- first starts are sound, and hold no vote
pub returns : goal.returns
returns c = created_start
