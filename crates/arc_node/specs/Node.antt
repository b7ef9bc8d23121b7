-- What a node keeps, and what may be on its disk.
use Rattle.std.specs.Prelude.{ℕ, ◌≡◌, ◌<◌, ◌≤◌, ◌+◌, Bool, true, false, ⊤, Option, None, Some, IfSome, List, length}
use Rattle.arc_data.specs.declared.record.Record.{Record}
use Rattle.arc_journal.specs.Layout.{entry_limit}
use Rattle.arc_journal.specs.Image.{records_of, AreWithin, IsJournalOf, IsWithin}
use Rattle.arc_journal.specs.Journal.{disk_of, node_of, slots_of, count_of, IsSettled}
use Rattle.arc_journal.specs.declared.journal.Journal.{Journal}
use Rattle.arc_node.specs.declared.standing.Standing.{Standing}
use Rattle.arc_node.specs.declared.standing.Standing.TheVariants.{Asleep, Up, Down, Retired}
use Rattle.arc_node.specs.declared.node.Node.{Node}
use Rattle.arc_voting.specs.Tails.{VotesAreInPlace}
use Rattle.arc_node.specs.Comparing.{IsKeptOrWith}

-- Its disk.
abbrev pub disk_in : {D : Type 0} → Node D → D
disk_in node = disk_of node.journal

-- Its number, below 5.
abbrev pub number_of : {D : Type 0} → Node D → ℕ
number_of node = node_of node.journal

-- The greatest length of its list.
abbrev pub slots_in : {D : Type 0} → Node D → ℕ
slots_in node = slots_of node.journal

-- The entries that it keeps.
abbrev pub kept : {D : Type 0} → Node D → List Record
kept node = node.entries

-- The entry of which it doesn't know whether its disk has it.
abbrev pub doubt_of : {D : Type 0} → Node D → Option Record
doubt_of node = node.doubt

-- How many entries its journal takes.
abbrev pub limit_of : {D : Type 0} → Node D → ℕ
limit_of node = entry_limit (slots_in node)

abbrev pub is_standing_up : Standing → Bool
is_standing_up Asleep = false
is_standing_up Up = true
is_standing_up Down = false
is_standing_up Retired = false

-- It handles messages.
abbrev pub is_up : {D : Type 0} → Node D → Bool
is_up node = is_standing_up node.standing

-- It was loaded, and not woken yet.
abbrev pub IsAsleep : {D : Type 0} → Node D → Type 0
IsAsleep node = node.standing ≡ Asleep

-- A list of entries that its disk may have: the kept one, or that with the entry in doubt.
abbrev pub IsPossible : {D : Type 0} → Node D → List Record → Type 0
IsPossible node list = IsKeptOrWith (kept node) (doubt_of node) list

-- In each list that its disk may have, each vote stands at the slot that was open when it was given.
abbrev pub HasVotesInPlace : {D : Type 0} → Node D → Type 0
HasVotesInPlace node = (list : List Record) → IsPossible node list → VotesAreInPlace list

-- An image of a journal with a possible list of the node.
pub record MayRead {D : Type 0} (node : Node D) (image : List ℕ) : Type 0 where
  pub list : List Record
  pub possible : IsPossible node list
  pub journal : IsJournalOf (number_of node) (slots_in node) list image

-- How many entries are in doubt.
abbrev pub doubts : Option Record → ℕ
doubts None = 0
doubts (Some entry) = 1

-- A node is within its limits: its journal takes the kept entries, and that in doubt besides, and each of these is within
-- the limits of entries and closes no slot beyond the list.
pub record HasLimits {D : Type 0} (node : Node D) : Type 0 where
  pub number : number_of node < 5
  pub some : 1 ≤ slots_in node
  pub most : slots_in node ≤ 16384
  pub room : length (kept node) + doubts (doubt_of node) ≤ limit_of node
  pub within : AreWithin (slots_in node) (kept node)
  pub doubt_within : IfSome (doubt_of node) (IsWithin (slots_in node))

-- A journal has these entries, and a crash leaves just them.
pub record HasEntries {D : Type 0} (tells : Type 0) (content : D → List ℕ) (may_leave : D → List ℕ → Type 0)
    (journal : Journal D) (list : List Record) : Type 0 where
  pub settled : IsSettled tells content may_leave journal
  pub count : count_of journal ≡ length list
  pub reads : tells → records_of (content (disk_of journal)) ≡ list

-- Nothing is in doubt: its journal has the kept entries.
pub record IsKnown {D : Type 0} (tells : Type 0) (content : D → List ℕ) (may_leave : D → List ℕ → Type 0)
    (node : Node D) : Type 0 where
  pub has : HasEntries tells content may_leave node.journal (kept node)
  pub no_doubt : doubt_of node ≡ None

-- A fact of each node that isn't down.
abbrev pub UnlessDown : Standing → Type 0 → Type 0
UnlessDown Asleep P = P
UnlessDown Up P = P
UnlessDown Down P = ⊤
UnlessDown Retired P = P

-- A node in order: whatever a crash may leave on its disk is a journal of its own, with the kept entries or with that in
-- doubt behind them; and unless it is down nothing is in doubt.
pub record IsInOrder {D : Type 0} (tells : Type 0) (content : D → List ℕ) (may_leave : D → List ℕ → Type 0)
    (node : Node D) : Type 0 where
  pub limits : HasLimits node
  pub known : UnlessDown node.standing (IsKnown tells content may_leave node)
  pub images : tells → (image : List ℕ) → may_leave (disk_in node) image → MayRead node image

-- It is the node of the same number, for a list of the same greatest length.
pub record IsSameNode {D : Type 0} (old new : Node D) : Type 0 where
  pub number : number_of new ≡ number_of old
  pub slots : slots_in new ≡ slots_in old

-- It keeps the same entries, and the same is in doubt.
pub record KeepsList {D : Type 0} (old new : Node D) : Type 0 where
  pub entries : kept new ≡ kept old
  pub doubt : doubt_of new ≡ doubt_of old
