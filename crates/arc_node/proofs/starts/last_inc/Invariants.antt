-- The last number so far, and the entries behind.
use Rattle.std.proofs.Common.{◌≡◌, drop}
use Rattle.std.specs.Prelude.{fold}
use Rattle.arc_voting.specs.Journals.{inc_after, last_inc}
use Rattle.arc_node.proofs.starts.last_inc.Given as goal

abbrev pub invariant-loop-entry : goal.invariant-loop-entry
invariant-loop-entry l = fold inc_after l.last (drop l.entry-index l.entries) ≡ last_inc l.entries
