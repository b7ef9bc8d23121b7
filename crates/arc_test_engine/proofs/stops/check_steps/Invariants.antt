-- The engine is in order.
use Rattle.arc_engine.specs.Engine.{IsInOrder}
use Rattle.arc_test_engine.proofs.stops.check_steps.Given as goal

abbrev pub invariant-loop-step : goal.invariant-loop-step
invariant-loop-step g l = IsInOrder g.D.Disk.tells g.D.Disk.content g.D.Disk.may_leave l.engine
