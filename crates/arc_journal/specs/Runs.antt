-- Runs of device calls: how many there were, and what became of the clock, the count of faults and the stop.
use Rattle.std.specs.Prelude.{ℕ, zero, suc, ◌≡◌, ◌≤◌, ◌<◌, ◌-◌, Bool, true, false, IsTrue, Option, None, Some, Result, Ok, Err}
use Rattle.arc_bytes.specs.Counts.{next_count}
use Rattle.arc_disk.specs.Calls.{Counted}
use Rattle.arc_disk.specs.declared.disk.WriteEnd.{WriteEnd}
use Rattle.arc_disk.specs.declared.disk.WriteEnd.TheVariants.{Failed, Memory}
use Rattle.arc_journal.specs.declared.end.JournalEnd.{JournalEnd}
use Rattle.arc_journal.specs.declared.end.JournalEnd.TheVariants as ends

-- What the clock says after so many device calls.
abbrev pub clock_after : ℕ → ℕ → ℕ
clock_after zero moment = moment
clock_after (suc calls) moment = next_count (clock_after calls moment)

-- In how many device calls the disk stops, so many calls later.
abbrev pub sooner_by : ℕ → Option ℕ → Option ℕ
sooner_by calls None = None
sooner_by calls (Some stop) = Some (stop - calls)

-- No stop is set in the next so many device calls.
abbrev pub NoStopWithin : ℕ → Option ℕ → Type 0
NoStopWithin calls None = Unit {0}
NoStopWithin calls (Some stop) = calls ≤ stop

-- So many device calls, of which only the last may have failed.
pub record IsRun {D : Type 0} (moment faults : D → ℕ) (stops_in : D → Option ℕ) (is_tame : D → Type 0)
    (old new : D) (calls : ℕ) (failed : Bool) : Type 0 where
  pub later : moment old ≤ moment new
  pub clock : moment new ≡ clock_after calls (moment old)
  pub count : Counted failed (faults old) (faults new)
  pub nearer : stops_in new ≡ sooner_by calls (stops_in old)
  pub tame : is_tame old → is_tame new
  -- a tame disk fails only in the call in which it was to stop
  pub chosen : is_tame old → IsTrue failed → stops_in old ≡ Some (calls - 1)

-- All of n device calls by the answer Ok, otherwise at least one of them, the last of which failed or had no memory.
abbrev pub WritesInRun : {D : Type 0} (moment faults : D → ℕ) (stops_in : D → Option ℕ) (is_tame : D → Type 0)
    → ℕ → D → D → Result Unit WriteEnd → Type 0
WritesInRun moment faults stops_in is_tame n old new (Ok _) =
    IsRun moment faults stops_in is_tame old new n false × NoStopWithin n (stops_in old)
WritesInRun moment faults stops_in is_tame n old new (Err Failed) =
    (k : ℕ) × (1 ≤ k) × (k ≤ n) × IsRun moment faults stops_in is_tame old new k true
WritesInRun moment faults stops_in is_tame n old new (Err Memory) =
    (k : ℕ) × (1 ≤ k) × (k < n) × IsRun moment faults stops_in is_tame old new k false

-- The device calls of an opening that makes n of them: all of them where it found a journal or a fault in the bytes,
-- otherwise some of them, the last of which failed where the disk is at fault.
abbrev pub OpensInRun : {D : Type 0} (moment faults : D → ℕ) (stops_in : D → Option ℕ) (is_tame : D → Type 0)
    → ℕ → D → D → Option JournalEnd → Type 0
OpensInRun moment faults stops_in is_tame n old new None =
    IsRun moment faults stops_in is_tame old new n false × NoStopWithin n (stops_in old)
OpensInRun moment faults stops_in is_tame n old new (Some (ends.NotOurs place)) =
    IsRun moment faults stops_in is_tame old new n false
OpensInRun moment faults stops_in is_tame n old new (Some (ends.Rotten place stored computed)) =
    IsRun moment faults stops_in is_tame old new n false
OpensInRun moment faults stops_in is_tame n old new (Some ends.Disk) =
    (k : ℕ) × (1 ≤ k) × (k ≤ n) × IsRun moment faults stops_in is_tame old new k true
OpensInRun moment faults stops_in is_tame n old new (Some ends.Memory) =
    (k : ℕ) × (k ≤ n) × IsRun moment faults stops_in is_tame old new k false

-- How a call ended, where it ended badly.
abbrev pub ending_of : {T : Type 0} → Result T JournalEnd → Option JournalEnd
ending_of (Ok value) = None
ending_of (Err e) = Some e
