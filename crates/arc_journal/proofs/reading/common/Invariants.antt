-- The bytes so far are the same.
use Rattle.std.proofs.Common.{◌≡◌, ◌+◌, ◌≤◌, length, drop}
use Rattle.arc_journal.specs.Image.{common}
use Rattle.arc_journal.proofs.reading.common.Given as goal

abbrev pub invariant-loop-i : goal.invariant-loop-i
invariant-loop-i l = record {
  within : l.i ≤ length l.right;
  rest : common l.left l.right ≡ l.i + common (drop l.i l.left) (drop l.i l.right);
}
