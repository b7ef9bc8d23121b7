use Rattle.arc_voting.proofs.Agreeing.{sound_history, sound_ids}
use Rattle.arc_voting.proofs.laws.have_one_history.Goals as goal

pub returns-clause-begins : goal.returns-clause-begins
returns-clause-begins c = sound_history

pub returns-clause-ids : goal.returns-clause-ids
returns-clause-ids c = sound_ids
