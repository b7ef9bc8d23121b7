use Rattle.std.proofs.Common.{◌≡◌, take}
use Rattle.arc_data.proofs.copies.copy_each.Given as goal

-- the texts so far are copied
abbrev pub invariant-loop-text : goal.invariant-loop-text
invariant-loop-text l = l.copy.items ≡ take l.text-index l.texts
