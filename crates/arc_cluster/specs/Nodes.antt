-- Five nodes in order, and how they go on.
use Rattle.std.specs.Prelude.{ℕ, ◌≡◌, ◌≢◌, ◌<◌, ◌⊎◌, ◌↔◌, true, List}
use Rattle.arc_bytes.specs.Five.{at}
use Rattle.arc_bytes.specs.declared.five.Five.{Five}
use Rattle.arc_data.specs.declared.command.Command.{Command}
use Rattle.arc_node.specs.declared.node.Node.{Node}
use Rattle.arc_node.specs.Node.{disk_in, is_up, kept, number_of, slots_in, IsInOrder, IsPossible, IsSameNode, KeepsList}
use Rattle.arc_voting.specs.Growth.{Grows, HasVote}
use Rattle.arc_voting.specs.Ids.{IdsAreInOrder}
use Rattle.arc_voting.specs.Journals.{Journals}
use Rattle.arc_voting.specs.Sound.{IsSound}

-- Their disks.
abbrev pub disks_in : {D : Type 0} → Five (Node D) → Five D
disks_in nodes = record {
  d0 = disk_in nodes.d0;
  d1 = disk_in nodes.d1;
  d2 = disk_in nodes.d2;
  d3 = disk_in nodes.d3;
  d4 = disk_in nodes.d4;
}

-- One possible list of each node: what an up node keeps, and of a node that is down what it keeps or that with the entry in
-- doubt behind it.
abbrev pub IsChoice : {D : Type 0} → Five (Node D) → Journals → Type 0
IsChoice nodes js = (node : ℕ) → node < 5 → IsPossible (at nodes node) (js node)

-- Five nodes in order: each of them is, has its number, and takes as many commands as the first; whichever possible lists
-- are chosen, they are sound; and the ids of an up node are in order.
pub record AreInOrder {D : Type 0} (tells : Type 0) (content : D → List ℕ) (may_leave : D → List ℕ → Type 0)
    (nodes : Five (Node D)) : Type 0 where
  pub each : (node : ℕ) → node < 5 → IsInOrder tells content may_leave (at nodes node)
  pub numbered : (node : ℕ) → node < 5 → number_of (at nodes node) ≡ node
  pub alike : (node : ℕ) → node < 5 → slots_in (at nodes node) ≡ slots_in nodes.d0
  pub sound : (js : Journals) → IsChoice nodes js → IsSound js
  pub ids : (node : ℕ) → node < 5 → is_up (at nodes node) ≡ true → IdsAreInOrder (kept (at nodes node)) node

-- Later possible lists have grown from earlier ones, and each command that has a vote in them had one, or may begin.
pub record Follow {D : Type 0} (old new : Five (Node D)) (begins : Command → Type 0) (after : Journals) : Type 0 where
  pub before : Journals
  pub possible : IsChoice old before
  pub grown : Grows before after
  pub votes : (c : Command) → HasVote after c → HasVote before c ⊎ begins c

-- So does each choice of them.
abbrev pub AllFollow : {D : Type 0} → Five (Node D) → Five (Node D) → (Command → Type 0) → Type 0
AllFollow old new begins = (after : Journals) → IsChoice new after → Follow old new begins after

-- Nodes stay what they are: of the same number, for lists of the same greatest length.
abbrev pub AreSame : {D : Type 0} → Five (Node D) → Five (Node D) → Type 0
AreSame old new = (node : ℕ) → node < 5 →
    (number_of (at new node) ≡ number_of (at old node)) × (slots_in (at new node) ≡ slots_in (at old node))

-- The same lists can be chosen.
abbrev pub HaveSameChoices : {D : Type 0} → Five (Node D) → Five (Node D) → Type 0
HaveSameChoices old new = (js : Journals) → IsChoice old js ↔ IsChoice new js

-- All five keep their entries and those in doubt. This one is the same node still, and the four others stay as they are.
pub record KeepAllLists {D : Type 0} (old new : Five (Node D)) (node : ℕ) : Type 0 where
  pub others : (other : ℕ) → other < 5 → other ≢ node → at new other ≡ at old other
  pub same : IsSameNode (at old node) (at new node)
  pub list : KeepsList (at old node) (at new node)
