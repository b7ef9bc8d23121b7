-- Every entry so far fits those before it, and is noted.
use Rattle.std.proofs.Common.{ℕ, ◌<◌}
use Rattle.arc_voting.specs.Sound.{IsWellFormedIn}
use Rattle.arc_voting.specs.Walk.{Describes}
use Rattle.arc_voting.proofs.formed.first_unfit.Given as goal

abbrev pub invariant-loop-place : goal.invariant-loop-place
invariant-loop-place l = Describes l.seen l.journal l.place × ((p : ℕ) → p < l.place → IsWellFormedIn l.promises l.journal p)
