-- The cluster is in order, and the command may be attempted again where the last attempt left it so.
use Rattle.std.proofs.Common.{◌≡◌, true}
use Rattle.arc_cluster.specs.Cluster.{IsInOrder}
use Rattle.arc_cluster.specs.Phases.{MayBeAttempted}
use Rattle.arc_test_five.proofs.attempts.check_attempts.Given as goal

abbrev pub invariant-loop-wanted : goal.invariant-loop-wanted
invariant-loop-wanted g l = record {
  in_order : IsInOrder g.D.Disk.tells g.D.Disk.content g.D.Disk.may_leave l.nodes;
  may : l.again ≡ true → MayBeAttempted l.nodes.nodes l.node l.command;
}
