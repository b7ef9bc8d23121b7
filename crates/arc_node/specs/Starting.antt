-- What waking and restarting make of a node.
use Rattle.std.specs.Prelude.{ℕ, ◌≡◌, ◌≢◌, ◌⊎◌, ◌+◌, ◌<◌, ⊤, true, false, Option, None, Some, List, [], ◌∷◌, ◌++◌, length, take}
use Rattle.std.specs.List.{slice_get}
use Rattle.arc_bytes.specs.Counts.{HasRisen}
use Rattle.arc_data.specs.declared.record.Record.{Record}
use Rattle.arc_data.specs.declared.record.Record.TheVariants.{Opened}
use Rattle.arc_disk.specs.Disk.{LeavesOnly}
use Rattle.arc_journal.specs.Image.{IsJournalOf, own_fault, records_of}
use Rattle.arc_journal.specs.declared.end.JournalEnd.{JournalEnd}
use Rattle.arc_journal.specs.declared.end.JournalEnd.TheVariants as reading
use Rattle.arc_voting.specs.Journals.{opened_count}
use Rattle.arc_node.specs.declared.restart.Restart.{Restart}
use Rattle.arc_node.specs.declared.restart.Restart.TheVariants.{Up, Full, Disk, NotOurs, Rotten, Damaged, Memory}
use Rattle.arc_node.specs.declared.node.Node.{Node}
use Rattle.arc_node.specs.Node.{disk_in, doubt_of, is_up, kept, limit_of, number_of, slots_in, IsAsleep, IsPossible, KeepsList, MayRead}

-- The number of the next start behind these entries.
abbrev pub next_inc : List Record → ℕ
next_inc list = opened_count list + 1

-- The entry of the next start behind these entries.
abbrev pub next_opened : List Record → Record
next_opened list = Opened (next_inc list)

-- A node of this number and this greatest length of its list, created: up, with its first start alone.
pub record IsCreated {D : Type 0} (node : Node D) (number slots : ℕ) : Type 0 where
  pub number_is : number_of node ≡ number
  pub slots_are : slots_in node ≡ slots
  pub up : is_up node ≡ true
  pub entries : kept node ≡ Opened 1 ∷ []
  pub no_doubt : doubt_of node ≡ None

-- It starts behind this list, which has room for its start.
pub record StartsBehind {D : Type 0} (old new : Node D) (list : List Record) (inc : ℕ) : Type 0 where
  pub up : is_up new ≡ true
  pub room : length list < limit_of old
  pub number : inc ≡ next_inc list
  pub entries : kept new ≡ list ++ Opened inc ∷ []
  pub no_doubt : doubt_of new ≡ None

-- This list has no room for another start.
pub record IsFull {D : Type 0} (old new : Node D) (list : List Record) (count : ℕ) : Type 0 where
  pub not_up : is_up new ≡ false
  pub counted : count ≡ length list
  pub at_the_limit : count ≡ limit_of old
  pub entries : kept new ≡ list
  pub no_doubt : doubt_of new ≡ None

-- The disk failed while the start behind this list was appended, so that it is in doubt.
pub record IsInDoubt {D : Type 0} (old new : Node D) (list : List Record) : Type 0 where
  pub room : length list < limit_of old
  pub entries : kept new ≡ list
  pub doubt : doubt_of new ≡ Some (next_opened list)

-- The node isn't up, and keeps what it kept.
pub record StaysShut {D : Type 0} (old new : Node D) : Type 0 where
  pub not_up : is_up new ≡ false
  pub list : KeepsList old new

-- What became of a node that was to start behind this list.
abbrev pub Starts : {D : Type 0} (faults : D → ℕ) → Node D → Node D → List Record → Restart → Type 0
Starts faults old new list (Up inc) = StartsBehind old new list inc
Starts faults old new list (Full count) = IsFull old new list count
Starts faults old new list Disk =
    HasRisen (faults (disk_in old)) (faults (disk_in new)) × (is_up new ≡ false) × IsInDoubt old new list
Starts faults old new list (NotOurs place) = ⊥
Starts faults old new list (Rotten place stored computed) = ⊥
Starts faults old new list (Damaged place its found) = ⊥
Starts faults old new list Memory = StaysShut old new

-- What became of a node that was woken: it starts behind the list that it keeps, and is asleep still where there was no
-- memory.
abbrev pub Wakes : {D : Type 0} (faults : D → ℕ) → Node D → Node D → Restart → Type 0
Wakes faults old new result = Starts faults old new (kept old) result × (result ≡ Memory → IsAsleep new)

-- The disk of the node had a journal of its own, with this list.
abbrev pub HadList : {D : Type 0} (tells : Type 0) (content : D → List ℕ) → Node D → List Record → Type 0
HadList tells content node list =
    tells → (own_fault (number_of node) (slots_in node) (content (disk_in node)) ≡ None)
    × (list ≡ records_of (content (disk_in node)))

-- Two lists differ at this place first, where they have these entries, or end.
pub record DifferFirst (xs ys : List Record) (place : ℕ) (x y : Option Record) : Type 0 where
  pub same_front : take place xs ≡ take place ys
  pub former : x ≡ slice_get xs place
  pub latter : y ≡ slice_get ys place
  pub differ : x ≢ y

-- What became of a node that was restarted.
abbrev pub Restarts : {D : Type 0} (tells : Type 0) (content : D → List ℕ) (faults : D → ℕ)
    → Node D → Node D → Restart → Type 0
Restarts tells content faults old new (Up inc) =
    (list : List Record) × HadList tells content old list × IsPossible old list × StartsBehind old new list inc
Restarts tells content faults old new (Full count) =
    (list : List Record) × HadList tells content old list × IsPossible old list × IsFull old new list count
Restarts tells content faults old new Disk =
    HasRisen (faults (disk_in old)) (faults (disk_in new)) × (is_up new ≡ false)
    × (KeepsList old new
    ⊎ ((list : List Record) × HadList tells content old list × IsPossible old list × IsInDoubt old new list))
Restarts tells content faults old new (NotOurs place) =
    StaysShut old new
    × (tells → own_fault (number_of old) (slots_in old) (content (disk_in old)) ≡ Some (reading.NotOurs place))
Restarts tells content faults old new (Rotten place stored computed) =
    StaysShut old new
    × (tells → own_fault (number_of old) (slots_in old) (content (disk_in old)) ≡ Some (reading.Rotten place stored computed))
Restarts tells content faults old new (Damaged place its found) =
    StaysShut old new
    × ((list : List Record) × HadList tells content old list × (IsPossible old list → ⊥)
    × DifferFirst (kept old) list place its found)
Restarts tells content faults old new Memory = StaysShut old new

-- The answer doesn't say that the disk has anything but a journal of the node.
abbrev pub IsNoAccusation : Restart → Type 0
IsNoAccusation (Up inc) = ⊤
IsNoAccusation (Full count) = ⊤
IsNoAccusation Disk = ⊤
IsNoAccusation (NotOurs place) = ⊥
IsNoAccusation (Rotten place stored computed) = ⊥
IsNoAccusation (Damaged place its found) = ⊥
IsNoAccusation Memory = ⊤

-- How a restart ends whose reading ended so.
abbrev pub restart_of : JournalEnd → Restart
restart_of reading.Disk = Disk
restart_of (reading.NotOurs place) = NotOurs place
restart_of (reading.Rotten place stored computed) = Rotten place stored computed
restart_of reading.Memory = Memory

-- The answer shows where the list that was found differs from the kept one first, or yields to want of memory.
abbrev pub IsDamage : (list found : List Record) → Restart → Type 0
IsDamage list found (Up inc) = ⊥
IsDamage list found (Full count) = ⊥
IsDamage list found Disk = ⊥
IsDamage list found (NotOurs place) = ⊥
IsDamage list found (Rotten place stored computed) = ⊥
IsDamage list found (Damaged place its other) = DifferFirst list found place its other
IsDamage list found Memory = ⊤

-- An image of a journal with a possible list of the node, and the next start behind it.
abbrev pub HasStart : {D : Type 0} → Node D → List ℕ → Type 0
HasStart node image =
    (list : List Record) × IsPossible node list
    × IsJournalOf (number_of node) (slots_in node) (list ++ next_opened list ∷ []) image

-- A crash at any moment of a start leaves a journal that was possible before it, or one with the start.
abbrev pub LeavesStarted : {D : Type 0} (moment : D → ℕ) (left_since : D → ℕ → List ℕ → Type 0)
    → Node D → Node D → Type 0
LeavesStarted moment left_since old new =
    LeavesOnly moment left_since (disk_in old) (disk_in new) (λ image. MayRead old image ⊎ HasStart old image)
