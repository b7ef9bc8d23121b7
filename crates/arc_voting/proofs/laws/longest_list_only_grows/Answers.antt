use Rattle.arc_voting.proofs.Longest.{longest_is_one, each_begins_the_longest, longest_only_grows, longest_are_chosen}
use Rattle.arc_voting.proofs.laws.longest_list_only_grows.Goals as goal

pub returns-clause-one : goal.returns-clause-one
returns-clause-one c = longest_is_one

pub returns-clause-begins : goal.returns-clause-begins
returns-clause-begins c = each_begins_the_longest

pub returns-clause-grows : goal.returns-clause-grows
returns-clause-grows c = longest_only_grows

pub returns-clause-chosen : goal.returns-clause-chosen
returns-clause-chosen c = longest_are_chosen
