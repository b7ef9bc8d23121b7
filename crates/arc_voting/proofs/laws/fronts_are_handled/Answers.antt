use Rattle.arc_voting.proofs.Fronts.{fronts_are_handled}
use Rattle.arc_voting.proofs.laws.fronts_are_handled.Goals as goal

pub returns : goal.returns
returns c = fronts_are_handled
