-- The cluster is in order, and the command is valid.
use Rattle.arc_cluster.specs.Cluster.{IsInOrder}
use Rattle.arc_data.specs.Valid.{IsValidCommand}
use Rattle.arc_bench.proofs.cluster.place_all.Given as goal

abbrev pub invariant-loop : goal.invariant-loop
invariant-loop g l = record {
  in_order : IsInOrder g.D.Disk.tells g.D.Disk.content g.D.Disk.may_leave l.nodes;
  valid : IsValidCommand l.command;
}
