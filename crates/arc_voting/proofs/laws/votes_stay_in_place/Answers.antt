use Rattle.arc_voting.proofs.Behind.{top_vote_is_in_tail, vote_is_in_tail}
use Rattle.arc_voting.proofs.InPlace.{no_votes_are_in_place, turns_keep_votes_in_place, starts_keep_votes_in_place, fronts_keep_votes_in_place, sound_votes_are_in_place}
use Rattle.arc_voting.proofs.laws.votes_stay_in_place.Goals as goal

pub returns-clause-top : goal.returns-clause-top
returns-clause-top c = top_vote_is_in_tail

pub returns-clause-vote : goal.returns-clause-vote
returns-clause-vote c = vote_is_in_tail

pub returns-clause-none : goal.returns-clause-none
returns-clause-none c = no_votes_are_in_place

pub returns-clause-turns : goal.returns-clause-turns
returns-clause-turns c = turns_keep_votes_in_place

pub returns-clause-starts : goal.returns-clause-starts
returns-clause-starts c = starts_keep_votes_in_place

pub returns-clause-fronts : goal.returns-clause-fronts
returns-clause-fronts c = fronts_keep_votes_in_place

pub returns-clause-sound : goal.returns-clause-sound
returns-clause-sound c = sound_votes_are_in_place
