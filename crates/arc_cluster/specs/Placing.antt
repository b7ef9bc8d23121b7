-- Which commands may be attempted.
use Rattle.std.specs.Prelude.{ℕ, ◌≡◌, ◌<◌, ⊤, true, List, Contains, Option}
use Rattle.arc_bytes.specs.Five.{at}
use Rattle.arc_bytes.specs.declared.five.Five.{Five}
use Rattle.arc_data.specs.Entries.{closed_len}
use Rattle.arc_data.specs.Valid.{IsInRange, IsValidCommand}
use Rattle.arc_data.specs.declared.command.Command.{Command}
use Rattle.arc_ids.specs.declared.command_id.CommandId.{CommandId}
use Rattle.arc_node.specs.declared.node.Node.{Node}
use Rattle.arc_node.specs.Node.{is_up, kept, number_of}
use Rattle.arc_voting.specs.Journals.{last_inc, since_opened}
use Rattle.arc_voting.specs.Lists.{applied}
use Rattle.arc_cluster.specs.declared.attempt.Attempt.{Attempt}
use Rattle.arc_cluster.specs.declared.attempt.Attempt.TheVariants.{Placed, Other, Disturbed, NodeDown, ListFull, Memory}
use Rattle.arc_cluster.specs.declared.cluster.Cluster.{Cluster}
use Rattle.arc_cluster.specs.Attempts.{EndsAttempt}
use Rattle.arc_cluster.specs.Nodes.{AreInOrder}
use Rattle.arc_cluster.specs.Onward.{ClusterGoesOn, GoOn}
use Rattle.arc_cluster.specs.Phases.{MayBeAttempted}

-- The id that a node gives its next command: its number, its last start, and how many entries it keeps behind that.
pub record IsNextId {D : Type 0} (node : Node D) (id : CommandId) : Type 0 where
  pub home : id.node ≡ number_of node
  pub start : id.inc ≡ last_inc (kept node)
  pub number : id.n ≡ since_opened (kept node)

-- Of nodes in order, the next id of an up node is in range.
abbrev pub NextIdsAreInRange : {D : Type 0} → Type 0 → (D → List ℕ) → (D → List ℕ → Type 0) → Type 0
NextIdsAreInRange {D} tells content may_leave =
    (nodes : Five (Node D)) (node : ℕ) (id : CommandId) → AreInOrder tells content may_leave nodes → node < 5 →
    is_up (at nodes node) ≡ true → IsNextId (at nodes node) id → IsInRange id

-- Of nodes in order, a valid command that has the next id of an up node may be attempted there.
abbrev pub NewMayBeAttempted : {D : Type 0} → Type 0 → (D → List ℕ) → (D → List ℕ → Type 0) → Type 0
NewMayBeAttempted {D} tells content may_leave =
    (nodes : Five (Node D)) (node : ℕ) (c : Command) → AreInOrder tells content may_leave nodes → node < 5 →
    is_up (at nodes node) ≡ true → IsValidCommand c → IsNextId (at nodes node) c.id → MayBeAttempted nodes node c

-- A command that might be attempted at a node, and that this hasn't applied since, may be attempted there again, where in
-- the meantime no command began but that of one attempt: the same command, or one with another id.
abbrev pub MayBeAttemptedAgain : {D : Type 0} (faults : D → ℕ) (stops_in : D → Option ℕ) (is_tame : D → Type 0)
    → Type 0
MayBeAttemptedAgain {D} faults stops_in is_tame =
    (old new : Five (Node D)) (node : ℕ) (c attempted : Command) → node < 5 → MayBeAttempted old node c →
    GoOn faults stops_in is_tame (λ d. d ≡ attempted) old new → (attempted.id ≡ c.id → attempted ≡ c) →
    ¬ Contains (applied (kept (at new node))) c → MayBeAttempted new node c

-- Whether a command may be attempted again where an attempt for it ended so: unless it was placed, or its node went down. After
-- want of memory it may be where the node's list is as long as it was before the attempt.
abbrev pub MayFollow : {D : Type 0} → Five (Node D) → Five (Node D) → ℕ → Command → Attempt → Type 0
MayFollow old new node c (Placed slot) = ⊤
MayFollow old new node c (Other slot) = MayBeAttempted new node c
MayFollow old new node c (Disturbed tally) = MayBeAttempted new node c
MayFollow old new node c (NodeDown down) = ⊤
MayFollow old new node c (ListFull length) = MayBeAttempted new node c
MayFollow old new node c Memory = closed_len (kept (at new node)) ≡ closed_len (kept (at old node)) → MayBeAttempted new node c

-- So it is behind each attempt.
abbrev pub AttemptsMayFollow : {D C : Type 0} (faults : D → ℕ) (stops_in : D → Option ℕ) (is_tame : D → Type 0)
    (troubles : C → ℕ → ℕ) (is_silent : C → ℕ → Type 0) → Type 0
AttemptsMayFollow {D} {C} faults stops_in is_tame troubles is_silent =
    (old new : Cluster D C) (node : ℕ) (c : Command) (end : Attempt) → node < 5 → MayBeAttempted old.nodes node c →
    ClusterGoesOn faults stops_in is_tame troubles is_silent (λ d. d ≡ c) old new →
    EndsAttempt faults troubles old new node c end → MayFollow old.nodes new.nodes node c end
