use Rattle.arc_voting.proofs.Grown.{same_are_sound, handled_grow, votes_stay, chosen_stay, applied_only_grow, chosen_have_votes}
use Rattle.arc_voting.proofs.laws.journals_only_grow.Goals as goal

pub returns-clause-same : goal.returns-clause-same
returns-clause-same c = same_are_sound

pub returns-clause-handled : goal.returns-clause-handled
returns-clause-handled c = handled_grow

pub returns-clause-votes : goal.returns-clause-votes
returns-clause-votes c = votes_stay

pub returns-clause-chosen : goal.returns-clause-chosen
returns-clause-chosen c = chosen_stay

pub returns-clause-applied : goal.returns-clause-applied
returns-clause-applied c = applied_only_grow

pub returns-clause-voted : goal.returns-clause-voted
returns-clause-voted c = chosen_have_votes
