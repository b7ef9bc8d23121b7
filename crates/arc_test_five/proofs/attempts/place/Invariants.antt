-- The cluster is in order.
use Rattle.arc_cluster.specs.Cluster.{IsInOrder}
use Rattle.arc_test_five.proofs.attempts.place.Given as goal

abbrev pub invariant-loop-slot : goal.invariant-loop-slot
invariant-loop-slot g l = IsInOrder g.D.Disk.tells g.D.Disk.content g.D.Disk.may_leave l.nodes
