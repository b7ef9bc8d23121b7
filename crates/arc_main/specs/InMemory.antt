-- What an outside in memory holds, and what a call makes of it.
use Rattle.std.specs.Prelude.{ℕ, ◌==◌, Bool, false, not, List, [], Option, Some, None, Result, Ok, Err, if◌then◌else◌}
use Rattle.std.specs.List.{list_any}
use Rattle.arc_bytes.specs.Counts.{next_count}
use Rattle.arc_bytes.specs.InMemory.{Input}
use Rattle.arc_bytes.specs.declared.outcome.Failed.{Failed}

-- The bytes of standard input, the numbers of the calls of `script` that are to fail, the numbers of the reads that are
-- to fail of the source that is given, the number of the next call, and the count of faults.
pub record Held : Type 0 where
  pub input : List ℕ
  pub failing : List ℕ
  pub failing_reads : List ℕ
  pub calls : ℕ
  pub faults : ℕ

-- the bytes that a path names: standard input has no path, and nothing is told of files
abbrev pub named_in : Held → Option (List ℕ) → Option (List ℕ)
named_in held None = Some held.input
named_in held (Some path) = None

-- whether the next call of `script` opens a path: standard input, unless it is to fail
abbrev pub opens_in : Held → Option (List ℕ) → Option Bool
opens_in held None = Some (not (list_any (λ n. n == held.calls) held.failing))
opens_in held (Some path) = Some false

-- the source that is given: all of standard input, of which nothing was read
abbrev pub source_of : Held → Input
source_of held = record { left = held.input; failing = held.failing_reads; calls = 0; faults = 0 }

-- After one call of `script`: standard input was taken out, or a failure raised the count of faults.
abbrev pub after_script : {Source : Type 0} → Held → Result Source Failed → Held
after_script held (Ok _) =
    record { input = []; failing = held.failing; failing_reads = []; calls = next_count held.calls; faults = held.faults }
after_script held (Err _) = record held { calls = next_count held.calls; faults = next_count held.faults }

-- After a source came back: the count of faults rose where that source had failed.
abbrev pub after_done : Held → Input → Held
after_done held source = if source.faults == 0 then held else record held { faults = next_count held.faults }
