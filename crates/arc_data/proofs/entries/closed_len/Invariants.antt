use Rattle.std.proofs.Common.{◌≡◌, ◌+◌, drop}
use Rattle.arc_data.specs.Entries.{closed_len}
use Rattle.arc_data.proofs.entries.closed_len.Given as goal

-- those so far, and those behind
abbrev pub invariant-loop-r : goal.invariant-loop-r
invariant-loop-r l = l.closed + closed_len (drop l.r-index l.rs) ≡ closed_len l.rs
