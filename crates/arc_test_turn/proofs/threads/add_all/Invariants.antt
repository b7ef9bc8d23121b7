use Rattle.std.proofs.Common.{◌<◌}
use Rattle.arc_turn.specs.Known.{IsFree}
use Rattle.arc_test_turn.proofs.threads.add_all.Given as goal

-- the pass stays free, and of this turn
abbrev pub invariant-loop-i : goal.invariant-loop-i
invariant-loop-i g l = IsFree l.turn l.pass × (l.thread < 4)
