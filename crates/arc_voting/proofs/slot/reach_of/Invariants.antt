-- The highest ballot promised so far.
use Rattle.std.proofs.Common.{◌≡◌, take}
use Rattle.std.specs.List.{fold}
use Rattle.arc_voting.proofs.Slots.{raised_by}
use Rattle.arc_voting.proofs.slot.reach_of.Given as goal

abbrev pub invariant-loop-entry : goal.invariant-loop-entry
invariant-loop-entry l = l.reach ≡ fold (raised_by l.slot) 0 (take l.entry-index l.journal)
