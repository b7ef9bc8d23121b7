-- The ranges that are left are still to be filled.
use Rattle.std.proofs.Common.{◌≡◌, drop}
use Rattle.arc_disk.specs.Past.{all_filled}
use Rattle.arc_disk.proofs.history.fill_all.Given as goal

abbrev pub invariant-loop-range : goal.invariant-loop-range
invariant-loop-range l = all_filled l.fill (drop l.range-index l.ranges) l.content.items ≡ all_filled l.fill l.ranges l.fn.content.items
