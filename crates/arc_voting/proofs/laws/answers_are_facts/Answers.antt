use Rattle.arc_voting.proofs.Answering.{answers_are_facts, counted_stays, told_are_chosen, applied_are_chosen, counted_vote_stands, voted_by_three_is_chosen, chosen_are_applied}
use Rattle.arc_voting.proofs.laws.answers_are_facts.Goals as goal

pub returns-clause-says : goal.returns-clause-says
returns-clause-says c = answers_are_facts

pub returns-clause-counted : goal.returns-clause-counted
returns-clause-counted c = counted_stays

pub returns-clause-told : goal.returns-clause-told
returns-clause-told c = told_are_chosen

pub returns-clause-applied : goal.returns-clause-applied
returns-clause-applied c = applied_are_chosen

pub returns-clause-stands : goal.returns-clause-stands
returns-clause-stands c = counted_vote_stands

pub returns-clause-three : goal.returns-clause-three
returns-clause-three c = voted_by_three_is_chosen

pub returns-clause-chosen : goal.returns-clause-chosen
returns-clause-chosen c = chosen_are_applied
