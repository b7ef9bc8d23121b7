-- The engine is in order.
use Rattle.arc_engine.specs.Engine.{IsInOrder}
use Rattle.arc_test_engine.proofs.calls.read.Given as goal

abbrev pub invariant-loop-slot : goal.invariant-loop-slot
invariant-loop-slot g l = IsInOrder g.D.Disk.tells g.D.Disk.content g.D.Disk.may_leave l.engine
