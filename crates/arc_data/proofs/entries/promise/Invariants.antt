use Rattle.std.proofs.Common.{◌≡◌, Some, drop}
use Rattle.std.specs.List.{filter_map, last_or}
use Rattle.std.specs.Option.{unwrap_or}
use Rattle.arc_data.specs.Entries.{promise, promised_in}
use Rattle.arc_data.proofs.entries.promise.Given as goal

abbrev pub invariant-loop-r : goal.invariant-loop-r
invariant-loop-r l =
    unwrap_or (last_or (Some l.promise) (filter_map promised_in (drop l.r-index l.rs))) 0 ≡ promise l.rs
