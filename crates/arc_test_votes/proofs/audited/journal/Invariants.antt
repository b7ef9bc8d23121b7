-- No journal of a test is longer than its limit.
use Rattle.std.proofs.Common.{◌≤◌, vec_len}
use Rattle.arc_test_votes.proofs.audited.journal.Given as goal

abbrev pub invariant-loop-entry : goal.invariant-loop-entry
invariant-loop-entry l = vec_len l.records ≤ 100
