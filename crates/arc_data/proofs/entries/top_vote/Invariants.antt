use Rattle.std.proofs.Common.{◌≡◌, drop}
use Rattle.arc_data.specs.Entries.{better, told, top_vote}
use Rattle.arc_data.proofs.entries.top_vote.Given as goal

abbrev pub invariant-loop-r : goal.invariant-loop-r
invariant-loop-r l = better (told l.top) (top_vote l.slot (drop l.r-index l.rs)) ≡ top_vote l.slot l.rs
