-- Five disks with journals that are opened: what is tested, and what becomes of the disks.
use Rattle.std.specs.Prelude.{ℕ, ◌≡◌, ◌≢◌, ◌<◌, ◌⊎◌, ⊤, true, false, Option, None, Some, List, [], ◌∷◌, ◌++◌, length}
use Rattle.arc_bytes.specs.Counts.{HasRisen}
use Rattle.arc_bytes.specs.Five.{at}
use Rattle.arc_bytes.specs.declared.five.Five.{Five}
use Rattle.arc_data.specs.declared.command.Command.{Command}
use Rattle.arc_data.specs.declared.record.Record.{Record}
use Rattle.arc_disk.specs.Disk.{Keeps, LeavesOnly}
use Rattle.arc_journal.specs.Image.{first_fault, records_of, slots_in}
use Rattle.arc_journal.specs.Journal.{IsBeforeOrWith}
use Rattle.arc_journal.specs.declared.end.JournalEnd.TheVariants as reading
use Rattle.arc_node.specs.Node as node
use Rattle.arc_node.specs.Node.{disk_in, doubt_of, is_up, kept, limit_of, number_of, IsAsleep, IsInOrder, IsSameNode}
use Rattle.arc_node.specs.Starting.{LeavesStarted, next_opened}
use Rattle.arc_node.specs.declared.node.Node.{Node}
use Rattle.arc_voting.specs.Growth.{Grows, HasVote}
use Rattle.arc_voting.specs.Journals.{Journals}
use Rattle.arc_voting.specs.Sound.{IsFirstBreach, IsSound}
use Rattle.arc_cluster.specs.Nodes.{IsChoice}
use Rattle.arc_cluster.specs.Since.{Since}
use Rattle.arc_cluster.specs.declared.opening.OpenEnd.{OpenEnd}
use Rattle.arc_cluster.specs.declared.opening.OpenEnd.TheVariants.{Disk, Missing, NotOurs, Rotten, Mixed, Breach, Memory}

-- The journals that five disks read as.
abbrev pub read_as : {D : Type 0} → (D → List ℕ) → Five D → Journals
read_as content disks node = records_of (content (at disks node))

-- The test of Missing: each of these disks has something on it.
abbrev pub AreThere : {D : Type 0} → (D → List ℕ) → Five D → ℕ → Type 0
AreThere content disks count = (node : ℕ) → node < count → content (at disks node) ≢ []

-- The test of NotOurs and Rotten: each of the first disks reads as a journal of its node.
abbrev pub HaveJournals : {D : Type 0} → (D → List ℕ) → Five D → ℕ → Type 0
HaveJournals content disks count = (node : ℕ) → node < count → first_fault node (content (at disks node)) ≡ None

-- The test of Mixed: each of the first journals is for a list of the same greatest length as that of node 0.
abbrev pub AreAlike : {D : Type 0} → (D → List ℕ) → Five D → ℕ → Type 0
AreAlike content disks count =
    (node : ℕ) → node < count → slots_in (content (at disks node)) ≡ slots_in (content (at disks 0))

-- Why five disks weren't opened. A disk is named as failed where its count of faults rose. What else is said of a disk is
-- said where disks tell what a read gives: the test that is named is the first that fails, at the least node.
abbrev pub EndsOpening : {D : Type 0} (tells : Type 0) (content : D → List ℕ) (faults : D → ℕ)
    → Five D → Five D → OpenEnd → Type 0
EndsOpening tells content faults old new (Disk node) = (node < 5) × HasRisen (faults (at old node)) (faults (at new node))
EndsOpening tells content faults old new (Missing node) = (node < 5) × (tells →
    AreThere content old node × (content (at old node) ≡ []))
EndsOpening tells content faults old new (NotOurs node place) = (node < 5) × (tells →
    AreThere content old 5 × HaveJournals content old node
    × (first_fault node (content (at old node)) ≡ Some (reading.NotOurs place)))
EndsOpening tells content faults old new (Rotten node place stored computed) = (node < 5) × (tells →
    AreThere content old 5 × HaveJournals content old node
    × (first_fault node (content (at old node)) ≡ Some (reading.Rotten place stored computed)))
EndsOpening tells content faults old new (Mixed node have first) = (node < 5) × (tells →
    AreThere content old 5 × HaveJournals content old 5 × AreAlike content old node
    × (have ≡ slots_in (content (at old node))) × (first ≡ slots_in (content (at old 0))) × (have ≢ first))
EndsOpening tells content faults old new (Breach breach) = tells →
    AreThere content old 5 × HaveJournals content old 5 × AreAlike content old 5 × IsFirstBreach (read_as content old) breach
EndsOpening tells content faults old new Memory = ⊤

-- A node that was opened: it started behind the journal that its disk had, or that is full; and its disk didn't fail.
pub record IsOpened {D : Type 0} (tells : Type 0) (content : D → List ℕ) (faults : D → ℕ) (disk : D) (opened : Node D) (number : ℕ) : Type 0 where
  pub number_is : number_of opened ≡ number
  pub no_fault : faults (disk_in opened) ≡ faults disk
  pub before : List Record
  pub read : tells → before ≡ records_of (content disk)
  pub slots : tells → node.slots_in opened ≡ slots_in (content disk)
  pub no_doubt : doubt_of opened ≡ None
  pub started : ((is_up opened ≡ true) × (kept opened ≡ before ++ next_opened before ∷ []))
      ⊎ ((is_up opened ≡ false) × (kept opened ≡ before) × (length before ≡ limit_of opened))

-- So is each of the five.
abbrev pub AreOpened : {D : Type 0} (tells : Type 0) (content : D → List ℕ) (faults : D → ℕ) → Five D → Five (Node D) → Type 0
AreOpened tells content faults disks opened =
    (node : ℕ) → node < 5 → IsOpened tells content faults (at disks node) (at opened node) node

-- All five disks pass each test, where they tell what a read gives.
pub record PassTests {D : Type 0} (content : D → List ℕ) (disks : Five D) : Type 0 where
  pub there : AreThere content disks 5
  pub journals : HaveJournals content disks 5
  pub alike : AreAlike content disks 5
  pub sound : IsSound (read_as content disks)

-- Whichever lists of five nodes are chosen, they have grown from these journals, and no command got its first vote.
abbrev pub OnlyStarted : {D : Type 0} → Journals → Five (Node D) → Type 0
OnlyStarted js nodes = (after : Journals) → IsChoice nodes after → Grows js after × ((c : Command) → HasVote after c → HasVote js c)

-- The opening ended by a test that the disks fail, and by no failure of a disk or want of memory.
abbrev pub IsTest : OpenEnd → Type 0
IsTest (Disk node) = ⊥
IsTest (Missing node) = ⊤
IsTest (NotOurs node place) = ⊤
IsTest (Rotten node place stored computed) = ⊤
IsTest (Mixed node have first) = ⊤
IsTest (Breach breach) = ⊤
IsTest Memory = ⊥

-- A crash at any moment of an opening leaves of a disk what it might have left before, or the journal that was read, or
-- that with the next start behind it.
abbrev pub LeavesOpened : {D : Type 0} (content : D → List ℕ) (may_leave : D → List ℕ → Type 0) (moment : D → ℕ)
    (left_since : D → ℕ → List ℕ → Type 0) → ℕ → D → D → Type 0
LeavesOpened content may_leave moment left_since node old new =
    LeavesOnly moment left_since old new (λ image. may_leave old image
    ⊎ IsBeforeOrWith node (slots_in (content old)) (records_of (content old)) (next_opened (records_of (content old))) image)

-- What becomes of a disk that is opened. It reads as before, or as the journal that was read, or as that with the next start.
pub record OpensDisk {D : Type 0} (tells : Type 0) (content : D → List ℕ) (may_leave : D → List ℕ → Type 0) (faults moment : D → ℕ)
    (stops_in : D → Option ℕ) (is_tame : D → Type 0) (left_since : D → ℕ → List ℕ → Type 0) (node : ℕ) (old new : D) : Type 0 where
  pub reads : tells → (content new ≡ content old)
      ⊎ IsBeforeOrWith node (slots_in (content old)) (records_of (content old)) (next_opened (records_of (content old))) (content new)
  pub any_moment : tells → LeavesOpened content may_leave moment left_since node old new
  pub since : Since faults stops_in is_tame old new

-- And of each of the five.
abbrev pub OpensDisks : {D : Type 0} → Type 0 → (D → List ℕ) → (D → List ℕ → Type 0) → (faults moment : D → ℕ)
    → (D → Option ℕ) → (D → Type 0) → (D → ℕ → List ℕ → Type 0) → Five D → Five D → Type 0
OpensDisks tells content may_leave faults moment stops_in is_tame left_since old new = (node : ℕ) → node < 5 →
    OpensDisk tells content may_leave faults moment stops_in is_tame left_since node (at old node) (at new node)

-- A disk that was only read: it reads as before, and a crash at any moment leaves what it might have left before.
pub record WasRead {D : Type 0} (tells : Type 0) (content : D → List ℕ) (may_leave : D → List ℕ → Type 0) (faults moment : D → ℕ)
    (stops_in : D → Option ℕ) (is_tame : D → Type 0) (left_since : D → ℕ → List ℕ → Type 0) (old new : D) : Type 0 where
  pub keeps : tells → Keeps content may_leave old new
  pub any_moment : tells → LeavesOnly moment left_since old new (may_leave old)
  pub since : Since faults stops_in is_tame old new

-- So was each of the five.
abbrev pub WereRead : {D : Type 0} → Type 0 → (D → List ℕ) → (D → List ℕ → Type 0) → (faults moment : D → ℕ)
    → (D → Option ℕ) → (D → Type 0) → (D → ℕ → List ℕ → Type 0) → Five D → Five D → Type 0
WereRead tells content may_leave faults moment stops_in is_tame left_since old new = (node : ℕ) → node < 5 →
    WasRead tells content may_leave faults moment stops_in is_tame left_since (at old node) (at new node)

-- Of none of five disks the count of faults rose.
abbrev pub NoneFailed : {D : Type 0} → (D → ℕ) → Five D → Five D → Type 0
NoneFailed faults old new = (node : ℕ) → node < 5 → faults (at new node) ≡ faults (at old node)

-- The count of faults rose of none of five disks but the one that is named as failed.
abbrev pub OnlyNamedFailed : {D : Type 0} → (D → ℕ) → Five D → Five D → OpenEnd → Type 0
OnlyNamedFailed faults old new end =
    (node : ℕ) → node < 5 → end ≢ Disk node → faults (at new node) ≡ faults (at old node)

-- Why a disk isn't there: it is empty, or failed.
abbrev pub IsNotThere : {D : Type 0} (tells : Type 0) (content : D → List ℕ) (faults : D → ℕ) → ℕ → D → D → OpenEnd → Type 0
IsNotThere tells content faults node old new (Disk n) = (n ≡ node) × HasRisen (faults old) (faults new)
IsNotThere tells content faults node old new (Missing n) = (n ≡ node) × (tells → content old ≡ [])
IsNotThere tells content faults node old new (NotOurs n place) = ⊥
IsNotThere tells content faults node old new (Rotten n place stored computed) = ⊥
IsNotThere tells content faults node old new (Mixed n have first) = ⊥
IsNotThere tells content faults node old new (Breach breach) = ⊥
IsNotThere tells content faults node old new Memory = ⊥

-- Why a disk isn't loaded.
abbrev pub IsRefused : {D : Type 0} (tells : Type 0) (content : D → List ℕ) (faults : D → ℕ) → ℕ → D → D → OpenEnd → Type 0
IsRefused tells content faults node old new (Disk n) = (n ≡ node) × HasRisen (faults old) (faults new)
IsRefused tells content faults node old new (Missing n) = ⊥
IsRefused tells content faults node old new (NotOurs n place) =
    (n ≡ node) × (tells → first_fault node (content old) ≡ Some (reading.NotOurs place))
IsRefused tells content faults node old new (Rotten n place stored computed) =
    (n ≡ node) × (tells → first_fault node (content old) ≡ Some (reading.Rotten place stored computed))
IsRefused tells content faults node old new (Mixed n have first) = ⊥
IsRefused tells content faults node old new (Breach breach) = ⊥
IsRefused tells content faults node old new Memory = ⊤

-- The least of five disks for which this holds of its end, the ones before it having passed the test.
pub record IsFirstEnd {D : Type 0} (passes : ℕ → Type 0) (Ends : ℕ → D → D → OpenEnd → Type 0) (old new : Five D)
    (end : OpenEnd) : Type 0 where
  pub node : ℕ
  pub of_five : node < 5
  pub passed : (n : ℕ) → n < node → passes n
  pub ends : Ends node (at old node) (at new node) end

-- A node that was loaded from a disk.
pub record IsLoaded {D : Type 0} (tells : Type 0) (content : D → List ℕ) (may_leave : D → List ℕ → Type 0) (faults : D → ℕ)
    (disk : D) (loaded : Node D) (number : ℕ) : Type 0 where
  pub in_order : IsInOrder tells content may_leave loaded
  pub asleep : IsAsleep loaded
  pub number_is : number_of loaded ≡ number
  pub no_fault : faults (disk_in loaded) ≡ faults disk
  pub read : tells → kept loaded ≡ records_of (content disk)
  pub slots : tells → node.slots_in loaded ≡ slots_in (content disk)
  pub faultless : tells → first_fault number (content disk) ≡ None

-- So was each of the five.
abbrev pub AreLoaded : {D : Type 0} → Type 0 → (D → List ℕ) → (D → List ℕ → Type 0) → (D → ℕ) → Five D → Five (Node D) → Type 0
AreLoaded tells content may_leave faults disks loaded =
    (node : ℕ) → node < 5 → IsLoaded tells content may_leave faults (at disks node) (at loaded node) node

-- The least node whose list has another greatest length than that of node 0.
abbrev pub IsMixed : {D : Type 0} → Five (Node D) → OpenEnd → Type 0
IsMixed nodes (Disk n) = ⊥
IsMixed nodes (Missing n) = ⊥
IsMixed nodes (NotOurs n place) = ⊥
IsMixed nodes (Rotten n place stored computed) = ⊥
IsMixed nodes (Mixed n have first) = (n < 5)
    × ((m : ℕ) → m < n → node.slots_in (at nodes m) ≡ node.slots_in (at nodes 0))
    × (have ≡ node.slots_in (at nodes n)) × (first ≡ node.slots_in (at nodes 0)) × (have ≢ first)
IsMixed nodes (Breach breach) = ⊥
IsMixed nodes Memory = ⊥

-- What the audit of five journals ended in.
abbrev pub IsUnsound : Journals → OpenEnd → Type 0
IsUnsound js (Disk n) = ⊥
IsUnsound js (Missing n) = ⊥
IsUnsound js (NotOurs n place) = ⊥
IsUnsound js (Rotten n place stored computed) = ⊥
IsUnsound js (Mixed n have first) = ⊥
IsUnsound js (Breach breach) = IsFirstBreach js breach
IsUnsound js Memory = ⊤

-- What became of a node that was loaded, on the way to its start.
pub record MayStart {D : Type 0} (tells : Type 0) (faults moment : D → ℕ) (stops_in : D → Option ℕ) (is_tame : D → Type 0)
    (left_since : D → ℕ → List ℕ → Type 0) (old new : Node D) : Type 0 where
  pub any_moment : tells → LeavesStarted moment left_since old new
  pub since : Since faults stops_in is_tame (disk_in old) (disk_in new)

-- It was started behind the list that was read, or that is full.
pub record IsAwake {D : Type 0} (faults : D → ℕ) (old new : Node D) : Type 0 where
  pub same : IsSameNode old new
  pub no_fault : faults (disk_in new) ≡ faults (disk_in old)
  pub no_doubt : doubt_of new ≡ None
  pub started : ((is_up new ≡ true) × (kept new ≡ kept old ++ next_opened (kept old) ∷ []))
      ⊎ ((is_up new ≡ false) × (kept new ≡ kept old) × (length (kept old) ≡ limit_of old))

-- The start of a node ended in this: its disk failed, or memory was wanting.
abbrev pub StartFails : {D : Type 0} (faults : D → ℕ) → ℕ → D → D → OpenEnd → Type 0
StartFails faults node old new (Disk n) = (n ≡ node) × HasRisen (faults old) (faults new)
StartFails faults node old new (Missing n) = ⊥
StartFails faults node old new (NotOurs n place) = ⊥
StartFails faults node old new (Rotten n place stored computed) = ⊥
StartFails faults node old new (Mixed n have first) = ⊥
StartFails faults node old new (Breach breach) = ⊥
StartFails faults node old new Memory = ⊤

-- The greatest length of a node's list.
abbrev pub slots_at : {D : Type 0} → Five (Node D) → ℕ → ℕ
slots_at nodes n = node.slots_in (at nodes n)

-- The start of one of five nodes ended in this: its disk failed, or memory was wanting.
abbrev pub EndsStarts : {D : Type 0} (faults : D → ℕ) → Five (Node D) → Five (Node D) → OpenEnd → Type 0
EndsStarts faults old new (Disk n) = (n < 5) × HasRisen (faults (disk_in (at old n))) (faults (disk_in (at new n)))
EndsStarts faults old new (Missing n) = ⊥
EndsStarts faults old new (NotOurs n place) = ⊥
EndsStarts faults old new (Rotten n place stored computed) = ⊥
EndsStarts faults old new (Mixed n have first) = ⊥
EndsStarts faults old new (Breach breach) = ⊥
EndsStarts faults old new Memory = ⊤

-- Each of five nodes may have been started.
abbrev pub MayAllStart : {D : Type 0} → Type 0 → (faults moment : D → ℕ) → (D → Option ℕ) → (D → Type 0)
    → (D → ℕ → List ℕ → Type 0) → Five (Node D) → Five (Node D) → Type 0
MayAllStart tells faults moment stops_in is_tame left_since old new = (node : ℕ) → node < 5 →
    MayStart tells faults moment stops_in is_tame left_since (at old node) (at new node)

-- The first of five nodes were started.
abbrev pub AreAwake : {D : Type 0} → (D → ℕ) → Five (Node D) → Five (Node D) → ℕ → Type 0
AreAwake faults old new count = (node : ℕ) → node < count → IsAwake faults (at old node) (at new node)

-- Each of five nodes was loaded, and not woken yet.
abbrev pub AreAsleep : {D : Type 0} → Five (Node D) → Type 0
AreAsleep nodes = (node : ℕ) → node < 5 → IsAsleep (at nodes node)

-- What five nodes keep.
abbrev pub kept_in : {D : Type 0} → Five (Node D) → Journals
kept_in nodes node = kept (at nodes node)

-- The lists of five nodes have one greatest length.
abbrev pub HaveOneLength : {D : Type 0} → Five (Node D) → Type 0
HaveOneLength nodes = (node : ℕ) → node < 5 → slots_at nodes node ≡ slots_at nodes 0

-- Each of five nodes has its number.
abbrev pub AreNumbered : {D : Type 0} → Five (Node D) → Type 0
AreNumbered nodes = (node : ℕ) → node < 5 → number_of (at nodes node) ≡ node

-- Why five nodes that were loaded weren't all started: the test that failed first, or the start of a node.
abbrev pub EndsTests : {D : Type 0} (faults : D → ℕ) → Five (Node D) → Five (Node D) → OpenEnd → Type 0
EndsTests faults old new (Disk n) = EndsStarts faults old new (Disk n)
EndsTests faults old new (Missing n) = ⊥
EndsTests faults old new (NotOurs n place) = ⊥
EndsTests faults old new (Rotten n place stored computed) = ⊥
EndsTests faults old new (Mixed n have first) = IsMixed old (Mixed n have first)
EndsTests faults old new (Breach breach) = HaveOneLength old × IsFirstBreach (kept_in old) breach
EndsTests faults old new Memory = ⊤
