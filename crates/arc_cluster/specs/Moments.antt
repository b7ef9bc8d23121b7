-- What crashes at any moments leave of five disks.
use Rattle.std.specs.Prelude.{ℕ, ◌≡◌, ◌<◌, ◌≤◌, ◌+◌, false, List, Option, length, take}
use Rattle.arc_bytes.specs.Five.{at}
use Rattle.arc_bytes.specs.declared.five.Five.{Five}
use Rattle.arc_data.specs.declared.message.Message.{Message}
use Rattle.arc_data.specs.declared.record.Record.{Record}
use Rattle.arc_disk.specs.Disk.{LeavesOnly}
use Rattle.arc_journal.specs.Image.{IsJournalOf, records_of}
use Rattle.arc_node.specs.declared.node.Node.{Node}
use Rattle.arc_node.specs.Node.{disk_in, is_up, kept, number_of, slots_in, HasVotesInPlace, IsInOrder, IsPossible, IsSameNode}
use Rattle.arc_voting.specs.Handled.{Handles}
use Rattle.arc_voting.specs.Laws.{Begins}
use Rattle.arc_voting.specs.Lawful.{Mail}
use Rattle.arc_voting.specs.Lists.{applied}
use Rattle.arc_voting.specs.Sound.{IsSound}
use Rattle.arc_cluster.specs.Handling.{HandlesAll}
use Rattle.arc_cluster.specs.Since.{Since}

-- An image of a journal with a possible list of the node, and what the node appends on the first messages behind it. Of these
-- entries the node had begun each: they are none where it wasn't up, and at most one more than it keeps in the end.
pub record HasFront {D : Type 0} (old new : Node D) (messages : List Message) (image : List ℕ) : Type 0 where
  pub before : List Record
  pub possible : IsPossible old before
  pub count : ℕ
  pub list : List Record
  pub handled : Handles (take count messages) before list
  pub shut : is_up old ≡ false → list ≡ before
  pub begun : length list ≤ length (kept new) + 1
  pub journal : IsJournalOf (number_of old) (slots_in old) list image

-- A crash at any moment of a node's handling leaves such an image.
abbrev pub LeavesFronts : {D : Type 0} (moment : D → ℕ) (left_since : D → ℕ → List ℕ → Type 0)
    → Node D → Node D → List Message → Type 0
LeavesFronts moment left_since old new messages =
    LeavesOnly moment left_since (disk_in old) (disk_in new) (HasFront old new messages)

-- So it is with each of the five.
abbrev pub AllLeaveFronts : {D : Type 0} (moment : D → ℕ) (left_since : D → ℕ → List ℕ → Type 0)
    → Five (Node D) → Five (Node D) → Mail → Type 0
AllLeaveFronts moment left_since old new mail =
    (node : ℕ) → node < 5 → LeavesFronts moment left_since (at old node) (at new node) (mail node)

-- Choose for each of the five disks an image that it might have left since then, each disk its own moment: the journals are
-- sound, and what each node had applied begins what its image has.
abbrev pub LeaveSound : {D : Type 0} (moment : D → ℕ) (left_since : D → ℕ → List ℕ → Type 0)
    → Five (Node D) → Five (Node D) → Type 0
LeaveSound moment left_since old new = (images : ℕ → List ℕ) →
    ((node : ℕ) → node < 5 → left_since (disk_in (at new node)) (moment (disk_in (at old node))) (images node)) →
    IsSound (λ node. records_of (images node))
    × ((node : ℕ) → node < 5 → Begins (applied (kept (at old node))) (applied (records_of (images node))))

-- All that became of a node that was handed these messages.
pub record Handled {D : Type 0} (tells : Type 0) (content : D → List ℕ) (may_leave : D → List ℕ → Type 0) (faults moment : D → ℕ)
    (stops_in : D → Option ℕ) (is_tame : D → Type 0) (left_since : D → ℕ → List ℕ → Type 0) (old new : Node D) (messages : List Message) : Type 0 where
  pub in_order : IsInOrder tells content may_leave new
  pub in_place : HasVotesInPlace new
  pub handles : HandlesAll faults old new messages
  pub any_moment : tells → LeavesFronts moment left_since old new messages
  pub since : Since faults stops_in is_tame (disk_in old) (disk_in new)
  pub same : IsSameNode old new

-- And of each of the five.
abbrev pub AllHandled : {D : Type 0} → Type 0 → (D → List ℕ) → (D → List ℕ → Type 0) → (faults moment : D → ℕ)
    → (D → Option ℕ) → (D → Type 0) → (D → ℕ → List ℕ → Type 0) → Five (Node D) → Five (Node D) → Mail → Type 0
AllHandled tells content may_leave faults moment stops_in is_tame left_since old new mail = (node : ℕ) → node < 5 →
    Handled tells content may_leave faults moment stops_in is_tame left_since (at old node) (at new node) (mail node)
