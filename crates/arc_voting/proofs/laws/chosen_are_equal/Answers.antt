use Rattle.arc_voting.proofs.Agreeing.{sound_agree}
use Rattle.arc_voting.proofs.laws.chosen_are_equal.Goals as goal

pub returns : goal.returns
returns c = sound_agree
