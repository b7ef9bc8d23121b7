use Rattle.arc_voting.proofs.Answering.{learning_reaches, learn_is_answered, promise_is_given, vote_is_given, node_gives_its_vote}
use Rattle.arc_voting.proofs.laws.nodes_give_their_votes.Goals as goal

pub returns-clause-reaches : goal.returns-clause-reaches
returns-clause-reaches c = learning_reaches

pub returns-clause-learned : goal.returns-clause-learned
returns-clause-learned c = learn_is_answered

pub returns-clause-promise : goal.returns-clause-promise
returns-clause-promise c = promise_is_given

pub returns-clause-vote : goal.returns-clause-vote
returns-clause-vote c = vote_is_given

pub returns-clause-whole : goal.returns-clause-whole
returns-clause-whole c = node_gives_its_vote
