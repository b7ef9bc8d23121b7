-- The cluster is in order.
use Rattle.arc_cluster.specs.Cluster.{IsInOrder}
use Rattle.arc_test_five.proofs.held.check_deliveries.Given as goal

abbrev pub invariant-loop-number : goal.invariant-loop-number
invariant-loop-number g l = IsInOrder g.D.Disk.tells g.D.Disk.content g.D.Disk.may_leave l.nodes
