use Rattle.std.proofs.Common.{length, ◌-◌, ◌+◌, ◌≡◌, ◌≤◌, ◌++◌, filter}
use Rattle.arc_plain.specs.Reads.{is_asked}
use Rattle.arc_state.specs.Listing.{rest_of}
use Rattle.arc_state.proofs.listing.listed.Given as goal

-- what is kept, and what is asked for of the rest, are the whole
abbrev pub invariant-loop-i : goal.invariant-loop-i
invariant-loop-i l =
    (l.items.items ++ filter (is_asked l.resource l.asked) (rest_of l.shifts l.i l.runs l.j l.now)
    ≡ filter (is_asked l.resource l.asked) (rest_of l.shifts 0 l.runs 0 l.now))
    × (l.i ≤ length l.shifts) × (l.j ≤ length l.runs)

abbrev pub decreases-loop-i : goal.decreases-loop-i
decreases-loop-i l = (length l.shifts - l.i) + (length l.runs - l.j)
