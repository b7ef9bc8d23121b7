-- Where some node votes at the ballot, one lower is tried.
use Rattle.std.proofs.Common.{◌≡◌, ℕ, arith, subst, inl, inr}
use Rattle.std.proofs.lemmas.Bool.{cases_lt}
use Rattle.arc_voting.specs.Journals.{journals_of}
use Rattle.arc_voting.specs.Parts.{SomeVotesAt}
use Rattle.arc_voting.proofs.settled.free_below.Goals as goal

pub loop-free-preserved : goal.loop-free-preserved
loop-free-preserved c =
    let here : SomeVotesAt (journals_of c.args.journals.now) c.args.slot.now.number c.loop-free.free =
    c.some_votes.ensures.0 c.if-some_votes.true in
    let P : ℕ → Type 0 = λ n. SomeVotesAt (journals_of c.args.journals.now) c.args.slot.now.number n in (
      omega arith,
      λ lower above below. elim (cases_lt c.loop-free.free lower) [
        | inl past ↦ c.loop-free.invariant.1 lower past below
        | inr within ↦ (let same : c.loop-free.free ≡ lower = omega (arith, above, within, c.loop-free-test.true) in subst P same here)
      ],
    )
