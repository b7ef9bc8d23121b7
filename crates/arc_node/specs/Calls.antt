-- The device calls that a node makes.
use Rattle.std.specs.Prelude.{ℕ, ◌≡◌, ◌⊎◌, ◌≤◌, ◌<◌, ◌+◌, false, true, Option, List, length}
use Rattle.arc_data.specs.declared.record.Record.{Record}
use Rattle.arc_journal.specs.Runs.{IsRun, NoStopWithin}
use Rattle.arc_node.specs.declared.handle_end.HandleEnd.{HandleEnd}
use Rattle.arc_node.specs.declared.handle_end.HandleEnd.TheVariants as ends
use Rattle.arc_node.specs.declared.restart.Restart.{Restart}
use Rattle.arc_node.specs.declared.restart.Restart.TheVariants as starts

-- The device calls of a handling: the four of an append where an entry was appended, and none where none was; otherwise
-- some of the four, the last of which failed where the disk is at fault.
abbrev pub HandlesInRun : {D : Type 0} (moment faults : D → ℕ) (stops_in : D → Option ℕ) (is_tame : D → Type 0)
    → (before after : List Record) → D → D → HandleEnd → Type 0
HandlesInRun moment faults stops_in is_tame before after old new (ends.Answered reply) =
    ((after ≡ before) × (new ≡ old))
    ⊎ ((length after ≡ length before + 1) × IsRun moment faults stops_in is_tame old new 4 false
    × NoStopWithin 4 (stops_in old))
HandlesInRun moment faults stops_in is_tame before after old new ends.Down =
    (new ≡ old) ⊎ ((k : ℕ) × (1 ≤ k) × (k ≤ 4) × IsRun moment faults stops_in is_tame old new k true)
HandlesInRun moment faults stops_in is_tame before after old new ends.Memory =
    (k : ℕ) × (k < 4) × IsRun moment faults stops_in is_tame old new k false

-- The device calls of a start whose opening makes n of them: those and the four of an append where the node is up; the
-- opening's where the start was refused, or didn't fit; otherwise some of them all, the last of which failed where the
-- disk is at fault.
abbrev pub StartsInRun : {D : Type 0} (moment faults : D → ℕ) (stops_in : D → Option ℕ) (is_tame : D → Type 0)
    → ℕ → D → D → Restart → Type 0
StartsInRun moment faults stops_in is_tame n old new (starts.Up inc) =
    IsRun moment faults stops_in is_tame old new (n + 4) false × NoStopWithin (n + 4) (stops_in old)
StartsInRun moment faults stops_in is_tame n old new (starts.Full count) =
    IsRun moment faults stops_in is_tame old new n false × NoStopWithin n (stops_in old)
StartsInRun moment faults stops_in is_tame n old new starts.Disk =
    (k : ℕ) × (1 ≤ k) × (k ≤ n + 4) × IsRun moment faults stops_in is_tame old new k true
StartsInRun moment faults stops_in is_tame n old new (starts.NotOurs place) =
    IsRun moment faults stops_in is_tame old new n false
StartsInRun moment faults stops_in is_tame n old new (starts.Rotten place stored computed) =
    IsRun moment faults stops_in is_tame old new n false
StartsInRun moment faults stops_in is_tame n old new (starts.Damaged place its found) =
    IsRun moment faults stops_in is_tame old new n false
StartsInRun moment faults stops_in is_tame n old new starts.Memory =
    (k : ℕ) × (k < n + 4) × IsRun moment faults stops_in is_tame old new k false
