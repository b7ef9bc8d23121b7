use Rattle.std.proofs.Common.{◌≡◌}
use Rattle.arc_turn.specs.Steps.{IsSame}
use Rattle.arc_turn.proofs.steps.await_turn.Given as goal

-- the seat is as it was
abbrev pub invariant-loop : goal.invariant-loop
invariant-loop g l = IsSame l.initial.place l.place × (l.place.me ≡ l.initial.place.me)
