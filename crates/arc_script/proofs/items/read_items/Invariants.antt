use Rattle.std.proofs.Common.{◌≡◌, ◌+◌, map, length}
use Rattle.arc_script.specs.Lists.{each}
use Rattle.arc_script.specs.Reading.{behind}
use Rattle.arc_script.proofs.items.read_items.Given as goal

-- what is left is read behind what was read
abbrev pub invariant-loop-rest : goal.invariant-loop-rest
invariant-loop-rest g l = record {
  so_far : behind l.read.items (each g.T.Item.meaning (map (λ item. item.now) l.rest)) ≡ each g.T.Item.meaning (map (λ item. item.now) l.items);
  all : length l.read.items + length l.rest ≡ length l.items;
}

abbrev pub decreases-loop-rest : goal.decreases-loop-rest
decreases-loop-rest g l = length l.rest
