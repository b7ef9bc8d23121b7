use Rattle.std.proofs.Common.{◌≡◌, ◌≤◌, ◌++◌, drop, vec_capacity}
use Rattle.std.specs.List.{flat_map, AllByRecursion}
use Rattle.arc_command.proofs.field.put_items.Given as goal

abbrev pub invariant-loop-item : goal.invariant-loop-item
invariant-loop-item g l =
    (l.out.items ++ flat_map g.T.Field.spelling (drop l.item-index l.items) ≡ l.fn.out.items ++ flat_map g.T.Field.spelling l.items)
    × (vec_capacity l.fn.out ≤ vec_capacity l.out)
    × (AllByRecursion g.T.Field.IsTyped (drop l.item-index l.items) → AllByRecursion g.T.Field.IsTyped l.items)
