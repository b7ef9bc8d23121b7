-- What a journal shows, and what its calls make of it.
use Rattle.std.specs.Prelude.{ℕ, ◌≡◌, ◌⊎◌, ◌+◌, ◌*◌, ◌<◌, ◌≤◌, true, false, Option, List, [], ◌∷◌, ◌++◌, length, map, Result, Ok, Err}
use Rattle.arc_bytes.specs.Counts.{HasRisen}
use Rattle.arc_disk.specs.Disk.{Only}
use Rattle.arc_data.specs.declared.record.Record.{Record}
use Rattle.arc_command.specs.Spelling.{record_bytes}
use Rattle.arc_journal.specs.Layout.{head, entries, entry_limit}
use Rattle.arc_journal.specs.Image.{records_of, IsJournalOf}
use Rattle.arc_journal.specs.Runs.{IsRun, NoStopWithin}
use Rattle.arc_journal.specs.declared.end.AppendEnd.{AppendEnd}
use Rattle.arc_journal.specs.declared.end.AppendEnd.TheVariants.{Disk, Full, Memory}
use Rattle.arc_journal.specs.declared.journal.Journal.{Journal}

-- The disk on which it lies.
abbrev pub disk_of : {D : Type 0} → Journal D → D
disk_of journal = journal.disk

-- The node whose journal it is.
abbrev pub node_of : {D : Type 0} → Journal D → ℕ
node_of journal = journal.node

-- The greatest length of the node's list.
abbrev pub slots_of : {D : Type 0} → Journal D → ℕ
slots_of journal = journal.max_slots

-- How many entries it has.
abbrev pub count_of : {D : Type 0} → Journal D → ℕ
count_of journal = journal.count

-- The place of the gate behind its entries.
abbrev pub place_of : {D : Type 0} → Journal D → ℕ
place_of journal = journal.place

-- A journal's numbers are within its limits.
pub record IsWithinLimits {D : Type 0} (journal : Journal D) : Type 0 where
  pub some : 1 ≤ slots_of journal
  pub most : slots_of journal ≤ 16384
  pub count : count_of journal ≤ entry_limit (slots_of journal)
  pub place : place_of journal ≤ 16 + 1074 * count_of journal

-- What a journal's disk reads as has these records, as the journal knows, and a crash leaves just that.
pub record Stands {D : Type 0} (content : D → List ℕ) (may_leave : D → List ℕ → Type 0) (journal : Journal D)
    (records : List Record) : Type 0 where
  pub image : IsJournalOf (node_of journal) (slots_of journal) records (content (disk_of journal))
  pub count : count_of journal ≡ length records
  pub place : place_of journal ≡ 16 + length (entries (map record_bytes records))
  pub durable : Only (content (disk_of journal)) (may_leave (disk_of journal))

-- Nothing is in doubt: the journal stands with the records that its disk reads as.
pub record IsSettled {D : Type 0} (tells : Type 0) (content : D → List ℕ) (may_leave : D → List ℕ → Type 0)
    (journal : Journal D) : Type 0 where
  pub limits : IsWithinLimits journal
  pub stands : tells → Stands content may_leave journal (records_of (content (disk_of journal)))

-- An image of the journal with these records, or with this one more.
abbrev pub IsBeforeOrWith : ℕ → ℕ → List Record → Record → List ℕ → Type 0
IsBeforeOrWith node slots records r image =
    IsJournalOf node slots records image ⊎ IsJournalOf node slots (records ++ r ∷ []) image

-- The answers of an append to so many entries: full exactly at the limit, and the disk's failure only where its count
-- of faults rose.
abbrev pub AnswersAppend : (count limit faults later : ℕ) → Result Unit AppendEnd → Type 0
AnswersAppend count limit faults later (Ok _) = count < limit
AnswersAppend count limit faults later (Err Disk) = (count < limit) × HasRisen faults later
AnswersAppend count limit faults later (Err (Full n)) = (n ≡ count) × (count ≡ limit)
AnswersAppend count limit faults later (Err Memory) = count < limit

-- The device calls of an append: exactly four where it answers Ok, none where the journal is full, and otherwise some of
-- the four, the last of which failed where the disk is at fault.
abbrev pub AppendsInRun : {D : Type 0} (moment faults : D → ℕ) (stops_in : D → Option ℕ) (is_tame : D → Type 0)
    → D → D → Result Unit AppendEnd → Type 0
AppendsInRun moment faults stops_in is_tame old new (Ok _) =
    IsRun moment faults stops_in is_tame old new 4 false × NoStopWithin 4 (stops_in old)
AppendsInRun moment faults stops_in is_tame old new (Err Disk) =
    (n : ℕ) × (1 ≤ n) × (n ≤ 4) × IsRun moment faults stops_in is_tame old new n true
AppendsInRun moment faults stops_in is_tame old new (Err (Full count)) = new ≡ old
AppendsInRun moment faults stops_in is_tame old new (Err Memory) =
    (n : ℕ) × (n < 4) × IsRun moment faults stops_in is_tame old new n false

-- It is the journal of the same node, for a list of the same greatest length.
pub record IsOfSame {D : Type 0} (old new : Journal D) : Type 0 where
  pub node : node_of new ≡ node_of old
  pub slots : slots_of new ≡ slots_of old

-- Its entries are the same.
pub record IsUnchanged {D : Type 0} (old new : Journal D) : Type 0 where
  pub count : count_of new ≡ count_of old
  pub place : place_of new ≡ place_of old

-- What an append makes of the entries, by its answer.
abbrev pub AppendsOne : {D : Type 0} (tells : Type 0) (content : D → List ℕ) (may_leave : D → List ℕ → Type 0)
    → Journal D → Journal D → Record → Result Unit AppendEnd → Type 0
AppendsOne tells content may_leave old new r (Ok _) =
    IsSettled tells content may_leave new × (count_of new ≡ count_of old + 1)
    × (tells → records_of (content (disk_of new)) ≡ records_of (content (disk_of old)) ++ r ∷ [])
AppendsOne tells content may_leave old new r (Err Disk) = IsUnchanged old new
AppendsOne tells content may_leave old new r (Err (Full n)) = new ≡ old
AppendsOne tells content may_leave old new r (Err Memory) =
    IsSettled tells content may_leave new × IsUnchanged old new
    × (tells → records_of (content (disk_of new)) ≡ records_of (content (disk_of old)))

-- A journal of this node and this greatest length of its list, without entries and settled.
pub record IsNew {D : Type 0} (tells : Type 0) (content : D → List ℕ) (may_leave : D → List ℕ → Type 0)
    (journal : Journal D) (node slots : ℕ) : Type 0 where
  pub settled : IsSettled tells content may_leave journal
  pub node_is : node_of journal ≡ node
  pub slots_are : slots_of journal ≡ slots
  pub count : count_of journal ≡ 0
  pub bytes : tells → content (disk_of journal) ≡ head node slots ++ 0 ∷ []
  pub records : tells → records_of (content (disk_of journal)) ≡ []
