-- What a source and a sink in memory have, and what a call makes of it.
use Rattle.std.specs.Prelude.{ℕ, List, ◌++◌, drop, Result, Ok, Err}
use Rattle.arc_bytes.specs.Counts.{next_count}
use Rattle.arc_bytes.specs.declared.outcome.Failed.{Failed}

-- A source: the bytes that are left, the numbers of the calls that are to fail, the number of the next call, and the
-- count of faults.
pub record Input : Type 0 where
  pub left : List ℕ
  pub failing : List ℕ
  pub calls : ℕ
  pub faults : ℕ

-- A source after one read: the bytes that it gave are gone, and a failure raised the count of faults.
abbrev pub after_read : Input → Result ℕ Failed → Input
after_read s (Ok n) = record { left = drop n s.left; failing = s.failing; calls = next_count s.calls; faults = s.faults }
after_read s (Err _) = record { left = s.left; failing = s.failing; calls = next_count s.calls; faults = next_count s.faults }

-- A sink: the bytes that it took, how many it has memory for, the numbers of the calls that are to fail, the number of
-- the next call, and the count of faults.
pub record Output : Type 0 where
  pub taken : List ℕ
  pub capacity : ℕ
  pub failing : List ℕ
  pub calls : ℕ
  pub faults : ℕ

-- A sink after one write, whose capacity may have grown: it took the whole piece, or nothing, and then the count of
-- faults rose.
abbrev pub after_write : Output → Result ℕ Failed → List ℕ → ℕ → Output
after_write s (Ok _) piece capacity =
    record { taken = s.taken ++ piece; capacity = capacity; failing = s.failing; calls = next_count s.calls; faults = s.faults }
after_write s (Err _) piece capacity =
    record { taken = s.taken; capacity = capacity; failing = s.failing; calls = next_count s.calls; faults = next_count s.faults }
