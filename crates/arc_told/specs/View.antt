-- Five nodes as plain data, and what lies behind them.
use Rattle.std.specs.Prelude.{ℕ, ◌≡◌, ◌<◌, ◌≤◌, ◌⊎◌, ◌+◌, ◌*◌, Bool, true, Option, None, Some, List, [], ◌∷◌, ◌++◌, length}
use Rattle.arc_data.specs.declared.command.Command.{Command}
use Rattle.arc_data.specs.declared.message.Message.{Message}
use Rattle.arc_data.specs.declared.record.Record.{Record}
use Rattle.arc_voting.specs.Journals.{Journals}
use Rattle.arc_voting.specs.Lists.{applied, longest}
use Rattle.arc_voting.specs.Sound.{IsSound}

-- What stays through a drill: the greatest length of the list, the five journals at entry, those that the disks read as when it
-- ends, whether the disks tell their content, and whether a node's own disk excuses it: one that failed though nobody told it to.
pub record World : Type 0 where
  pub slots : ℕ
  pub at_entry : Journals
  pub at_end : Journals
  pub tells : Bool
  pub excused : ℕ → Bool

-- how many entries a journal takes
abbrev pub limit_in : World → ℕ
limit_in world = 16 * world.slots + 64

-- One node: the entries that it keeps, the entry in doubt, whether it is up, and the device calls before its disk stops, where it
-- was told to.
pub record NodeView : Type 0 where
  pub kept : List Record
  pub doubt : Option Record
  pub up : Bool
  pub stop : Option ℕ

-- Five nodes, and their exchanges. Of each peer: how much trouble it can still meet, where that is bounded; whether the courier
-- is silent to it; and whether an answer of it can have been lost. Then the messages that are held, each with its receiver.
pub record View : Type 0 where
  pub node : ℕ → NodeView
  pub left : ℕ → Option ℕ
  pub silent : ℕ → Bool
  pub mute : ℕ → Bool
  pub held : List (ℕ × Message)

-- the journals that the nodes keep
abbrev pub kept_in : View → Journals
kept_in view node = (view.node node).kept

-- the list of the cluster: the longest that a node keeps
abbrev pub list_in : View → List Command
list_in view = longest (kept_in view)

-- how many commands the list has that a node keeps
abbrev pub len_in : View → ℕ → ℕ
len_in view node = length (applied (view.node node).kept)

-- A journal that a node may have: the entries that it keeps, or those with the entry in doubt.
abbrev pub IsPossible : NodeView → List Record → Type 0
IsPossible node journal =
    (journal ≡ node.kept) ⊎ ((entry : Record) × (node.doubt ≡ Some entry) × (journal ≡ node.kept ++ entry ∷ []))

-- One journal of each node that it may have.
abbrev pub IsChoice : View → Journals → Type 0
IsChoice view js = (node : ℕ) → node < 5 → IsPossible (view.node node) (js node)

-- A view in order: whichever journals the nodes have, they are sound together and within their limits. An up node has no entry in
-- doubt.
pub record IsInOrder (world : World) (view : View) : Type 0 where
  pub sound : (js : Journals) → IsChoice view js → IsSound js
  pub within : (js : Journals) → IsChoice view js → (node : ℕ) → node < 5 → length (js node) ≤ limit_in world
  pub room : (js : Journals) → IsChoice view js → (node : ℕ) → node < 5 → length (applied (js node)) ≤ world.slots
  pub sure : (node : ℕ) → node < 5 → (view.node node).up ≡ true → (view.node node).doubt ≡ None

-- The disks' journals at the end are ones that the nodes may have.
abbrev pub EndsAs : World → View → Type 0
EndsAs world view = IsChoice view world.at_end
