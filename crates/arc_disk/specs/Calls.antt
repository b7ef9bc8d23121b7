-- What each device call does beside reading and writing: the clock, the count of faults, and the stop that is set.
use Rattle.std.specs.Prelude.{ℕ, ◌≡◌, ◌≤◌, ◌-◌, Bool, true, false, IsTrue, Option, None, Some, Result, Ok, Err}
use Rattle.std.specs.Bool.{MatchBool}
use Rattle.arc_bytes.specs.Counts.{next_count, HasRisen}
use Rattle.arc_disk.specs.declared.disk.WriteEnd.{WriteEnd}
use Rattle.arc_disk.specs.declared.disk.WriteEnd.TheVariants.{Failed, Memory}

-- The call answered that the disk failed.
abbrev pub has_failed : Result Unit WriteEnd → Bool
has_failed (Ok _) = false
has_failed (Err Failed) = true
has_failed (Err Memory) = false

-- In how many device calls the disk stops, one device call later. 0 is the next one, and so it stays.
abbrev pub sooner : Option ℕ → Option ℕ
sooner None = None
sooner (Some calls) = Some (calls - 1)

-- The count of faults after a call: it rose where the call failed, and else it stayed.
abbrev pub Counted : Bool → ℕ → ℕ → Type 0
Counted failed before now = (before ≤ now) × MatchBool failed (HasRisen before now) (now ≡ before)

-- One device call, which failed or didn't.
pub record IsCall {D : Type 0} (moment faults : D → ℕ) (stops_in : D → Option ℕ) (is_tame : D → Type 0)
    (old new : D) (failed : Bool) : Type 0 where
  pub later : moment old ≤ moment new
  pub clock : moment new ≡ next_count (moment old)
  pub count : Counted failed (faults old) (faults new)
  pub nearer : stops_in new ≡ sooner (stops_in old)
  pub tame : is_tame old → is_tame new
  -- a tame disk fails only where it was stopped
  pub chosen : is_tame old → IsTrue failed → stops_in old ≡ Some 0

-- No device call was made: the clock and the count of faults stay, and a tame disk stays tame.
pub record IsNoCall {D : Type 0} (moment faults : D → ℕ) (is_tame : D → Type 0) (old new : D) : Type 0 where
  pub clock : moment new ≡ moment old
  pub count : faults new ≡ faults old
  pub tame : is_tame old → is_tame new
