-- The node is in order, has its votes in place, and is for as many slots as before.
use Rattle.std.proofs.Common.{◌≡◌}
use Rattle.arc_node.specs.Node.{HasVotesInPlace, IsInOrder, slots_in}
use Rattle.arc_bench.proofs.node.close_all.Given as goal

abbrev pub invariant-loop-slot : goal.invariant-loop-slot
invariant-loop-slot g l = record {
  in_order : IsInOrder g.D.Disk.tells g.D.Disk.content g.D.Disk.may_leave l.node;
  in_place : HasVotesInPlace l.node;
  slots : slots_in l.node ≡ slots_in l.initial.node;
}
