use Rattle.std.proofs.Common.{◌≡◌, ◌+◌, length, map, All}
use Rattle.serde_json.specs.View.{view}
use Rattle.arc_members.specs.Lists.{each}
use Rattle.arc_members.proofs.Items.{behind}
use Rattle.arc_members.proofs.list.each.Given as goal

-- what was read, before what is still read, is what is read of all
abbrev pub invariant-loop-rest : goal.invariant-loop-rest
invariant-loop-rest g l = record {
  so_far : behind l.read.items (each g.K.Kind.reading (map view l.rest)) ≡ each g.K.Kind.reading (map view l.items);
  within : All g.K.Kind.Holds l.read.items;
  count : length l.read.items + length l.rest ≡ length l.items;
}

abbrev pub decreases-loop-rest : goal.decreases-loop-rest
decreases-loop-rest g l = length l.rest
