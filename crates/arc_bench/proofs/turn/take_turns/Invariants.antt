use Rattle.arc_turn.specs.Known.{IsFree}
use Rattle.arc_bench.proofs.turn.take_turns.Given as goal

-- the pass stays free
abbrev pub invariant-loop : goal.invariant-loop
invariant-loop g l = IsFree l.turn l.pass
