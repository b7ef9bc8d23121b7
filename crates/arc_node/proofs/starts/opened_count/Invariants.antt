-- Those so far, and those behind.
use Rattle.std.proofs.Common.{◌≡◌, ◌+◌, ◌≤◌, drop}
use Rattle.arc_voting.specs.Journals.{opened_count}
use Rattle.arc_node.proofs.starts.opened_count.Given as goal

abbrev pub invariant-loop-entry : goal.invariant-loop-entry
invariant-loop-entry l = (l.count + opened_count (drop l.entry-index l.entries) ≡ opened_count l.entries) × (l.count ≤ l.entry-index)
