use Rattle.std.proofs.Common.{◌≢◌, ◌↔◌, length, AllPairs}
use Rattle.arc_data.proofs.limits.are_apart.Given as goal

-- none so far stands there again, so that the rest decides
abbrev pub invariant-loop-rest : goal.invariant-loop-rest
invariant-loop-rest g l = AllPairs (λ a b. a ≢ b) l.rest ↔ AllPairs (λ a b. a ≢ b) l.items

abbrev pub decreases-loop-rest : goal.decreases-loop-rest
decreases-loop-rest g l = length l.rest
