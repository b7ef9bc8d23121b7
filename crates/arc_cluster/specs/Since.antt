-- What becomes of a disk while its node handles messages.
use Rattle.std.specs.Prelude.{ℕ, ◌≡◌, ◌≤◌, ◌<◌, ◌-◌, ◌^◌, Option, None}
use Rattle.arc_bytes.specs.Five.{at}
use Rattle.arc_bytes.specs.declared.five.Five.{Five}
use Rattle.arc_node.specs.Node.{disk_in}
use Rattle.arc_node.specs.declared.node.Node.{Node}

-- A disk that fails only where it is told to stop, and isn't told so; its count of faults can still rise.
pub record IsQuiet {D : Type 0} (faults : D → ℕ) (stops_in : D → Option ℕ) (is_tame : D → Type 0) (disk : D) : Type 0 where
  pub tame : is_tame disk
  pub no_stop : stops_in disk ≡ None
  pub below : faults disk < 2 ^ 64 - 1

-- Later the count of faults hasn't fallen. A quiet disk is quiet still, and hasn't failed.
pub record Since {D : Type 0} (faults : D → ℕ) (stops_in : D → Option ℕ) (is_tame : D → Type 0) (old new : D) : Type 0 where
  pub later : faults old ≤ faults new
  pub quiet : IsQuiet faults stops_in is_tame old → IsQuiet faults stops_in is_tame new × (faults new ≡ faults old)

-- So it is with each of the five.
abbrev pub AllSince : {D : Type 0} (faults : D → ℕ) (stops_in : D → Option ℕ) (is_tame : D → Type 0)
    → Five (Node D) → Five (Node D) → Type 0
AllSince faults stops_in is_tame old new =
    (node : ℕ) → node < 5 → Since faults stops_in is_tame (disk_in (at old node)) (disk_in (at new node))

-- So it is with each of five disks.
abbrev pub DisksSince : {D : Type 0} (faults : D → ℕ) (stops_in : D → Option ℕ) (is_tame : D → Type 0)
    → Five D → Five D → Type 0
DisksSince faults stops_in is_tame old new =
    (node : ℕ) → node < 5 → Since faults stops_in is_tame (at old node) (at new node)
