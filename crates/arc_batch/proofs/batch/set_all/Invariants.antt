use Rattle.std.proofs.Common.{◌≡◌, drop}
use Rattle.arc_plain.specs.Panels.{with_states}
use Rattle.arc_batch.proofs.batch.set_all.Given as goal

-- the last entries are set
abbrev pub invariant-loop-i : goal.invariant-loop-i
invariant-loop-i l = l.panels ≡ with_states l.initial.panels (drop l.i l.entries)
