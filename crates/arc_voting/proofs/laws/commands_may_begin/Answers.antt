use Rattle.arc_voting.proofs.Owning.{unapplied_may_begin, drawn_may_begin, proposal_may_begin, voted_is_alone, alone_stays}
use Rattle.arc_voting.proofs.laws.commands_may_begin.Goals as goal

pub returns-clause-unapplied : goal.returns-clause-unapplied
returns-clause-unapplied c = unapplied_may_begin

pub returns-clause-drawn : goal.returns-clause-drawn
returns-clause-drawn c = drawn_may_begin

pub returns-clause-proposal : goal.returns-clause-proposal
returns-clause-proposal c = proposal_may_begin

pub returns-clause-voted : goal.returns-clause-voted
returns-clause-voted c = voted_is_alone

pub returns-clause-alone : goal.returns-clause-alone
returns-clause-alone c = alone_stays
