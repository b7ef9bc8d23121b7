use Rattle.arc_voting.proofs.Mailed.{histories_grow}
use Rattle.arc_voting.proofs.laws.histories_only_grow.Goals as goal

pub returns : goal.returns
returns c = histories_grow
