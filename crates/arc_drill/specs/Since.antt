-- What becomes of a disk in a drill.
use Rattle.std.specs.Prelude.{ℕ, ◌≡◌, ◌≤◌, ◌<◌, ◌-◌, ◌^◌, Option, None}

-- A disk that fails only where it is told to stop, and isn't told so; its count of faults can still rise.
pub record IsQuiet {D : Type 0} (faults : D → ℕ) (stops_in : D → Option ℕ) (is_tame : D → Type 0) (disk : D) : Type 0 where
  pub tame : is_tame disk
  pub no_stop : stops_in disk ≡ None
  pub below : faults disk < 2 ^ 64 - 1

-- Later the count of faults hasn't fallen. A quiet disk is quiet still, and hasn't failed.
pub record Since {D : Type 0} (faults : D → ℕ) (stops_in : D → Option ℕ) (is_tame : D → Type 0) (old new : D) : Type 0 where
  pub later : faults old ≤ faults new
  pub quiet : IsQuiet faults stops_in is_tame old → IsQuiet faults stops_in is_tame new × (faults new ≡ faults old)
