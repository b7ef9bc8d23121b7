use Rattle.std.proofs.Common.{◌≡◌, ◌+◌, ◌≤◌, drop}
use Rattle.arc_voting.specs.Journals.{promised_count}
use Rattle.arc_voting.proofs.formed.promises_in.Given as goal

-- those so far, and those behind
abbrev pub invariant-loop-entry : goal.invariant-loop-entry
invariant-loop-entry l =
    (l.promises + promised_count (drop l.entry-index l.journal) ≡ promised_count l.journal) × (l.promises ≤ l.entry-index)
