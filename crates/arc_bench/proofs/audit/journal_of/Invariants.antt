-- Three entries a slot.
use Rattle.std.proofs.Common.{◌≤◌, ◌+◌, ◌*◌, vec_len}
use Rattle.arc_bench.proofs.audit.journal_of.Given as goal

abbrev pub invariant-loop-slot : goal.invariant-loop-slot
invariant-loop-slot l = vec_len l.records ≤ 3 * l.slot + 1
