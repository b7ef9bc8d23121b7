use Rattle.arc_voting.proofs.Proposing.{proposal_keeps_sound, standing_vote_is_the_proposal}
use Rattle.arc_voting.proofs.laws.proposals_keep_sound.Goals as goal

pub returns-clause-sound : goal.returns-clause-sound
returns-clause-sound c = proposal_keeps_sound

pub returns-clause-standing : goal.returns-clause-standing
returns-clause-standing c = standing_vote_is_the_proposal
