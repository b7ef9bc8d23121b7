-- So many commands were applied so far, and the slot isn't below that.
use Rattle.std.proofs.Common.{◌≡◌, ◌≤◌, take, length}
use Rattle.arc_voting.specs.Lists.{applied}
use Rattle.arc_voting.proofs.applied.applied_at.Given as goal

abbrev pub invariant-loop-entry : goal.invariant-loop-entry
invariant-loop-entry l = (l.length ≡ length (applied (take l.entry-index l.rs))) × (l.length ≤ l.slot)
