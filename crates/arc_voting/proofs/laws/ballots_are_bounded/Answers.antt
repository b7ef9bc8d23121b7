use Rattle.arc_voting.proofs.Bounding.{promises_are_bounded, least_ballot_is_lawful, ballots_fit}
use Rattle.arc_voting.proofs.laws.ballots_are_bounded.Goals as goal

pub returns-clause-promises : goal.returns-clause-promises
returns-clause-promises c = promises_are_bounded

pub returns-clause-least : goal.returns-clause-least
returns-clause-least c = least_ballot_is_lawful

pub returns-clause-fit : goal.returns-clause-fit
returns-clause-fit c = ballots_fit
