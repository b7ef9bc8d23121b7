use Rattle.std.proofs.Common.{◌≡◌, map, take}
use Rattle.arc_plain.specs.Resources.{item_of}
use Rattle.arc_shift.proofs.resources.list.Given as goal

-- the items so far
abbrev pub invariant-loop-item : goal.invariant-loop-item
invariant-loop-item l = l.shown.items ≡ map item_of (take l.item-index l.items)
