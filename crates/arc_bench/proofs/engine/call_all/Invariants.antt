-- The engine is in order.
use Rattle.arc_engine.specs.Engine.{IsInOrder}
use Rattle.arc_bench.proofs.engine.call_all.Given as goal

abbrev pub invariant-loop : goal.invariant-loop
invariant-loop g l = IsInOrder g.D.Disk.tells g.D.Disk.content g.D.Disk.may_leave l.engine
