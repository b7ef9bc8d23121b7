-- The count so far, and the entries behind.
use Rattle.std.proofs.Common.{◌≡◌, ◌≤◌, ◌+◌, if◌then◌else◌, drop}
use Rattle.std.specs.Prelude.{fold}
use Rattle.arc_voting.specs.Journals.{is_opened, since_opened}
use Rattle.arc_node.proofs.starts.since_opened.Given as goal

abbrev pub invariant-loop-entry : goal.invariant-loop-entry
invariant-loop-entry l =
    (fold (λ count entry. if is_opened entry then 0 else count + 1) l.count (drop l.entry-index l.entries) ≡ since_opened l.entries)
    × (l.count ≤ l.entry-index)
