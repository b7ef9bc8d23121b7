-- What the counted promises say, of the value that contracts see.
use Rattle.std.proofs.Common.{rules, ◌≡◌, subst, true}
use Rattle.arc_data.specs.declared.command.Command.{Command}
use Rattle.arc_voting.specs.Proposal.{IsProposal}
use Rattle.arc_proposer.specs.Laws.{HasMajority}
use Rattle.arc_proposer.specs.Proposing.{Proposing, promises_of, proposed_by}
use Rattle.arc_proposer.proofs.Tops.{proposed_is_proposal}
use Rattle.arc_proposer.proofs.proposer.Proposer.proposal.Goals as goal

pub returns-then-not-has_majority-clause-none : goal.returns-then-not-has_majority-clause-none
returns-then-not-has_majority-clause-none c =
    let P : Proposing → Type 0 = λ p. HasMajority p → ⊥ in
    subst P c.self.view_is (λ majority. (let yes : c.has_majority.result ≡ true = c.has_majority.ensures.1 majority in cc))

pub returns-in-Some-clause-some : goal.returns-in-Some-clause-some
returns-in-Some-clause-some c =
    let P : Proposing → Type 0 = λ p. HasMajority p in
    subst P c.self.view_is (c.has_majority.ensures.0 c.if-not-has_majority.false)

pub returns-in-Some-clause-lawful : goal.returns-in-Some-clause-lawful
returns-in-Some-clause-lawful c =
    let told : proposed_by c.args.self.now ≡ c.in-Some.command.now = search rules in
    let P : Command → Type 0 = λ d. IsProposal (promises_of c.args.self.now) c.args.self.now.own d in
    subst P told (proposed_is_proposal c.args.self.now)

pub returns-in-None-clause-some : goal.returns-in-None-clause-some
returns-in-None-clause-some c =
    let P : Proposing → Type 0 = λ p. HasMajority p in
    subst P c.self.view_is (c.has_majority.ensures.0 c.if-not-has_majority.false)

pub returns-in-None-clause-lawful : goal.returns-in-None-clause-lawful
returns-in-None-clause-lawful c =
    let own : proposed_by c.args.self.now ≡ c.self.inside.own = search rules in
    let P : Command → Type 0 = λ d. IsProposal (promises_of c.args.self.now) c.args.self.now.own d in
    subst P own (proposed_is_proposal c.args.self.now)
