use Rattle.std.specs.Prelude.{ℕ, ◌<◌, All}
use Rattle.arc_voting.specs.Index.{IsKnown}
use Rattle.arc_voting.specs.Journals.{journals_of}
use Rattle.arc_voting.proofs.index.all_are_known.Given as goal

-- those of the nodes so far are known
abbrev pub invariant-loop-node : goal.invariant-loop-node
invariant-loop-node l = (n : ℕ) → n < l.node → All (IsKnown (journals_of l.journals) l.index) (journals_of l.journals n)
