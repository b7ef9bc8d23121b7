-- What an append makes of a journal and of the list of its entries.
use Rattle.std.specs.Prelude.{ℕ, ◌≡◌, ◌≤◌, ◌<◌, false, true, Option, List, [], ◌∷◌, ◌++◌, length}
use Rattle.arc_bytes.specs.Counts.{HasRisen}
use Rattle.arc_data.specs.declared.record.Record.{Record}
use Rattle.arc_journal.specs.Layout.{entry_limit}
use Rattle.arc_journal.specs.Journal.{disk_of, node_of, slots_of, IsBeforeOrWith}
use Rattle.arc_journal.specs.Runs.{IsRun, NoStopWithin}
use Rattle.arc_journal.specs.declared.journal.Journal.{Journal}
use Rattle.arc_node.specs.declared.appending.Appended.{Appended}
use Rattle.arc_node.specs.declared.appending.Appended.TheVariants.{Done, Doubtful, Full, Memory}
use Rattle.arc_node.specs.Node.{HasEntries}

-- The list has the entry behind it and the journal has the list; or the list stays. Then the journal has it still, unless
-- the disk failed: what is left then has the list, or the list with the entry. A full journal is told as such: the disk
-- fails, and memory is wanted, only where it has room.
abbrev pub AppendsTo : {D : Type 0} (tells : Type 0) (content : D → List ℕ) (may_leave : D → List ℕ → Type 0)
    (faults : D → ℕ) → Journal D → Journal D → List Record → List Record → Record → Appended → Type 0
AppendsTo tells content may_leave faults old new before after entry Done =
    HasEntries tells content may_leave new after × (after ≡ before ++ entry ∷ [])
    × (length before < entry_limit (slots_of old))
AppendsTo tells content may_leave faults old new before after entry (Doubtful lost) =
    (lost ≡ entry) × (after ≡ before) × (length before < entry_limit (slots_of old))
    × HasRisen (faults (disk_of old)) (faults (disk_of new))
    × (tells → (image : List ℕ) → may_leave (disk_of new) image →
    IsBeforeOrWith (node_of old) (slots_of old) before entry image)
AppendsTo tells content may_leave faults old new before after entry (Full count) =
    (new ≡ old) × (after ≡ before) × (count ≡ length before) × (count ≡ entry_limit (slots_of old))
AppendsTo tells content may_leave faults old new before after entry Memory =
    HasEntries tells content may_leave new after × (after ≡ before) × (length before < entry_limit (slots_of old))

-- The device calls of an append, by how it ended.
abbrev pub AppendsInCalls : {D : Type 0} (moment faults : D → ℕ) (stops_in : D → Option ℕ) (is_tame : D → Type 0)
    → D → D → Appended → Type 0
AppendsInCalls moment faults stops_in is_tame old new Done =
    IsRun moment faults stops_in is_tame old new 4 false × NoStopWithin 4 (stops_in old)
AppendsInCalls moment faults stops_in is_tame old new (Doubtful lost) =
    (n : ℕ) × (1 ≤ n) × (n ≤ 4) × IsRun moment faults stops_in is_tame old new n true
AppendsInCalls moment faults stops_in is_tame old new (Full count) = new ≡ old
AppendsInCalls moment faults stops_in is_tame old new Memory =
    (n : ℕ) × (n < 4) × IsRun moment faults stops_in is_tame old new n false
