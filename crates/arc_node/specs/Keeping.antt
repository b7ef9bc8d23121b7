-- What becomes of an up node that appends an entry.
use Rattle.std.specs.Prelude.{ℕ, ◌≡◌, ◌⊎◌, ◌≤◌, ◌<◌, true, false, Option, None, Some, [], ◌∷◌, ◌++◌, length}
use Rattle.arc_bytes.specs.Counts.{HasRisen}
use Rattle.arc_data.specs.declared.record.Record.{Record}
use Rattle.arc_journal.specs.Runs.{IsRun, NoStopWithin}
use Rattle.arc_node.specs.declared.appending.Kept.{Kept}
use Rattle.arc_node.specs.declared.appending.Kept.TheVariants.{Done, Fallen, Memory}
use Rattle.arc_node.specs.declared.node.Node.{Node}
use Rattle.arc_node.specs.Node.{disk_in, doubt_of, is_up, kept, limit_of, KeepsList}

-- The node keeps the entry, or is down: the disk failed, and the entry is in doubt, or the journal is full. Memory is
-- wanted only where the journal has room.
abbrev pub KeepsEntry : {D : Type 0} (faults : D → ℕ) → Node D → Node D → Record → Kept → Type 0
KeepsEntry faults old new entry Done =
    (is_up new ≡ true) × (kept new ≡ kept old ++ entry ∷ []) × (doubt_of new ≡ None)
KeepsEntry faults old new entry Fallen =
    (is_up new ≡ false) × (kept new ≡ kept old)
    × ((HasRisen (faults (disk_in old)) (faults (disk_in new)) × (doubt_of new ≡ Some entry))
    ⊎ ((length (kept old) ≡ limit_of old) × (doubt_of new ≡ None) × (disk_in new ≡ disk_in old)))
KeepsEntry faults old new entry Memory = (is_up new ≡ true) × KeepsList old new × (length (kept old) < limit_of old)

-- The device calls that it makes.
abbrev pub KeepsInRun : {D : Type 0} (moment faults : D → ℕ) (stops_in : D → Option ℕ) (is_tame : D → Type 0)
    → D → D → Kept → Type 0
KeepsInRun moment faults stops_in is_tame old new Done =
    IsRun moment faults stops_in is_tame old new 4 false × NoStopWithin 4 (stops_in old)
KeepsInRun moment faults stops_in is_tame old new Fallen =
    (new ≡ old) ⊎ ((k : ℕ) × (1 ≤ k) × (k ≤ 4) × IsRun moment faults stops_in is_tame old new k true)
KeepsInRun moment faults stops_in is_tame old new Memory =
    (k : ℕ) × (k < 4) × IsRun moment faults stops_in is_tame old new k false
