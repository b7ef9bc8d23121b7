-- Some node votes at each ballot that was passed by.
use Rattle.std.proofs.Common.{ℕ, ◌-◌, ◌<◌, ◌≤◌}
use Rattle.arc_voting.specs.Journals.{journals_of}
use Rattle.arc_voting.specs.Parts.{SomeVotesAt}
use Rattle.arc_voting.proofs.settled.free_below.Given as goal

abbrev pub invariant-loop-free : goal.invariant-loop-free
invariant-loop-free l = (l.free ≤ l.ballot - 1) × ((lower : ℕ) → l.free < lower → lower < l.ballot →
    SomeVotesAt (journals_of l.journals) l.slot.number lower)

abbrev pub decreases-loop-free : goal.decreases-loop-free
decreases-loop-free l = l.free
