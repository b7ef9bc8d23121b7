use Rattle.std.proofs.Common.{◌≢◌, ◌↔◌, length, AllPairs}
use Rattle.arc_data.proofs.limits.change_apart.Given as goal

-- no control so far is changed again, so that the rest decides
abbrev pub invariant-loop-rest : goal.invariant-loop-rest
invariant-loop-rest l =
    AllPairs (λ a b. a.control ≢ b.control) l.rest ↔ AllPairs (λ a b. a.control ≢ b.control) l.entries

abbrev pub decreases-loop-rest : goal.decreases-loop-rest
decreases-loop-rest l = length l.rest
