use Rattle.std.proofs.Common.{◌≡◌, ◌≤◌, length, All}
use Rattle.arc_snapshot.specs.Rule.{newcomer}
use Rattle.arc_snapshot.proofs.places.seat.Given as goal

-- so many readers were made, each of them new, and the side is as it was
abbrev pub invariant-loop-made : goal.invariant-loop-made
invariant-loop-made g l =
    (l.side ≡ l.initial.side) × (g.P.Places.refusals l.initial.places ≤ g.P.Places.refusals l.places)
    × (length l.reads.items ≡ l.made) × All (λ r. r ≡ newcomer l.initial.side.sides) l.reads.items
