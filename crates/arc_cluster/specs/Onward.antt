-- How five nodes go on while they handle messages.
use Rattle.std.specs.Prelude.{ℕ, ◌≡◌, ◌<◌, ◌≤◌, ◌+◌, ◌-◌, ◌^◌, min, ◌⊎◌, true, false, Option, None, Some, List, ◌++◌, length, Bool, Contains, if◌then◌else◌}
use Rattle.arc_bytes.specs.Counts.{HasRisen, next_count}
use Rattle.arc_bytes.specs.Five.{at}
use Rattle.arc_bytes.specs.declared.five.Five.{Five}
use Rattle.arc_data.specs.declared.command.Command.{Command}
use Rattle.arc_data.specs.declared.record.Record.{Record}
use Rattle.arc_node.specs.declared.node.Node.{Node}
use Rattle.arc_node.specs.Node.{disk_in, is_up, kept, limit_of}
use Rattle.arc_voting.specs.Journals.{last_inc, since_opened}
use Rattle.arc_cluster.specs.declared.cluster.Cluster.{Cluster}
use Rattle.arc_cluster.specs.declared.held.Envelope.{Envelope}
use Rattle.arc_cluster.specs.Cluster.{held_in}
use Rattle.arc_cluster.specs.Nodes.{AllFollow, AreSame}
use Rattle.arc_cluster.specs.Since.{AllSince}

-- A node goes on: it keeps what it kept, with more behind it. It is up only where it was, and then its disk hasn't failed.
-- One that went down had a disk that failed, or its journal is full. One that wasn't up stays as it is.
pub record GoesOn {D : Type 0} (faults : D → ℕ) (old new : Node D) : Type 0 where
  pub entries : (more : List Record) × (kept new ≡ kept old ++ more)
  pub was_up : is_up new ≡ true → (is_up old ≡ true) × (faults (disk_in new) ≡ faults (disk_in old))
  pub fallen : is_up old ≡ true → is_up new ≡ false →
      HasRisen (faults (disk_in old)) (faults (disk_in new)) ⊎ (length (kept new) ≡ limit_of new)
  pub still : is_up old ≡ false → new ≡ old
  pub starts : (last_inc (kept new) ≡ last_inc (kept old)) × (since_opened (kept old) ≤ since_opened (kept new))

-- Five nodes go on: each of them does, and each choice of their lists has grown from an earlier one. A command that has a
-- vote in it had one there, or may begin. Each is the node that it was, and so is its disk.
pub record GoOn {D : Type 0} (faults : D → ℕ) (stops_in : D → Option ℕ) (is_tame : D → Type 0) (begins : Command → Type 0)
    (old new : Five (Node D)) : Type 0 where
  pub each : (node : ℕ) → node < 5 → GoesOn faults (at old node) (at new node)
  pub follow : AllFollow old new begins
  pub same : AreSame old new
  pub since : AllSince faults stops_in is_tame old new

-- A count hasn't fallen. One beyond 2^64 - 1, where counts stand still, may have fallen to that.
abbrev pub HasNotFallen : ℕ → ℕ → Type 0
HasNotFallen before now = min before (2 ^ 64 - 1) ≤ now

-- A held message is for a node that is up.
abbrev pub IsForUp : {D : Type 0} → Five (Node D) → Envelope → Type 0
IsForUp nodes envelope = (envelope.to < 5) × (is_up (at nodes envelope.to) ≡ true)

-- What is held is held still, with messages for nodes that are up behind it.
abbrev pub HoldsMore : {D : Type 0} → Five (Node D) → List Envelope → List Envelope → Type 0
HoldsMore nodes before after =
    (more : List Envelope) × (after ≡ before ++ more) × ((envelope : Envelope) → Contains more envelope → IsForUp nodes envelope)

-- A cluster goes on: its nodes do, and what it held is held still, with messages for nodes that were up behind it. No count of
-- troubles has fallen, and a courier that was silent to a peer is so still.
pub record ClusterGoesOn {D C : Type 0} (faults : D → ℕ) (stops_in : D → Option ℕ) (is_tame : D → Type 0)
    (troubles : C → ℕ → ℕ) (is_silent : C → ℕ → Type 0) (begins : Command → Type 0) (old new : Cluster D C) : Type 0 where
  pub nodes : GoOn faults stops_in is_tame begins old.nodes new.nodes
  pub held : HoldsMore old.nodes (held_in old) (held_in new)
  pub troubles_stay : (peer : ℕ) → peer < 5 → HasNotFallen (troubles old.courier peer) (troubles new.courier peer)
  pub silent_stay : (peer : ℕ) → peer < 5 → is_silent old.courier peer → is_silent new.courier peer

-- A courier that tells how often it was asked goes on telling it, and was asked of each peer at most so many times more.
abbrev pub AsksAtMost : (before now : Option (ℕ → ℕ)) → (most : ℕ → ℕ) → Type 0
AsksAtMost None now most = now ≡ None
AsksAtMost (Some before) None most = ⊥
AsksAtMost (Some before) (Some now) most = (peer : ℕ) → peer < 5 → now peer ≤ before peer + most peer

-- A courier that tells how often it was asked goes on telling it, and was asked of just these peers, of each once.
abbrev pub AsksExactly : (before now : Option (ℕ → ℕ)) → (asks : ℕ → Bool) → Type 0
AsksExactly None now asks = now ≡ None
AsksExactly (Some before) None asks = ⊥
AsksExactly (Some before) (Some now) asks =
    (peer : ℕ) → peer < 5 → now peer ≡ (if asks peer then next_count (before peer) else before peer)
