-- How an attempt ends.
use Rattle.std.specs.Prelude.{ℕ, ◌≡◌, ◌≢◌, ◌<◌, ◌≤◌, ◌+◌, ◌-◌, ◌^◌, ◌*◌, ◌/◌, ◌%◌, ◌==◌, ◌&&◌, ◌⊎◌, ◌↔◌, Bool, true, false, not, if◌then◌else◌, IsTrue, List, Contains, count_by, length, Some}
use Rattle.arc_bytes.specs.Counts.{HasRisen, next_count}
use Rattle.arc_bytes.specs.Five.{at}
use Rattle.arc_bytes.specs.declared.five.Five.{Five}
use Rattle.arc_data.specs.Entries.{closed_len, promise}
use Rattle.arc_data.specs.declared.command.Command.{Command}
use Rattle.arc_data.specs.declared.record.Record.{Record}
use Rattle.arc_data.specs.declared.record.Record.TheVariants.{Opened, Promised, Voted, Closed}
use Rattle.arc_node.specs.declared.node.Node.{Node}
use Rattle.arc_node.specs.Node.{disk_in, is_up, kept, limit_of, slots_in}
use Rattle.arc_voting.specs.Journals.{ByThree, promised_count}
use Rattle.arc_voting.specs.Lists.{applied}
use Rattle.arc_cluster.specs.declared.attempt.Attempt.{Attempt}
use Rattle.arc_cluster.specs.declared.attempt.Attempt.TheVariants.{Placed, Other, Disturbed, NodeDown, ListFull, Memory}
use Rattle.arc_cluster.specs.declared.attempt.Tally.{Tally}
use Rattle.arc_cluster.specs.declared.cluster.Cluster.{Cluster}
use Rattle.arc_cluster.specs.Phases.{HasClosed, IsVotedForGood}

-- Whether an entry is a vote.
unfoldable pub is_voted : Record → Bool
is_voted (Opened inc) = false
is_voted (Promised from ballot) = false
is_voted (Voted slot ballot c) = true
is_voted (Closed slot c) = false

-- How many votes a node gave.
abbrev pub voted_count : List Record → ℕ
voted_count entries = count_by is_voted entries

-- A node has given no promise and no vote since.
abbrev pub GivesNone : List Record → List Record → Type 0
GivesNone before after = (promised_count after ≡ promised_count before) × (voted_count after ≡ voted_count before)

-- Each list got at most so many promises and votes.
abbrev pub GivesAtMost : {D : Type 0} → (promises votes : ℕ) → Five (Node D) → Five (Node D) → Type 0
GivesAtMost promises votes old new = (node : ℕ) → node < 5 →
    (promised_count (kept (at new node)) ≤ promised_count (kept (at old node)) + promises)
    × (voted_count (kept (at new node)) ≤ voted_count (kept (at old node)) + votes)

-- A node was clear: it was up throughout, its disk didn't fail, and no exchange with it met trouble.
pub record IsClear {D C : Type 0} (faults : D → ℕ) (troubles : C → ℕ → ℕ) (old new : Cluster D C) (node : ℕ) : Type 0 where
  pub was_up : is_up (at old.nodes node) ≡ true
  pub still_up : is_up (at new.nodes node) ≡ true
  pub no_fault : faults (disk_in (at new.nodes node)) ≡ faults (disk_in (at old.nodes node))
  pub no_trouble : troubles new.courier node ≡ troubles old.courier node

-- A node wasn't clear: it wasn't up, or isn't, or its count of troubles rose.
abbrev pub IsNotClear : {D C : Type 0} (troubles : C → ℕ → ℕ) → Cluster D C → Cluster D C → ℕ → Type 0
IsNotClear troubles old new node =
    (is_up (at old.nodes node) ≡ false) ⊎ (is_up (at new.nodes node) ≡ false)
    ⊎ HasRisen (troubles old.courier node) (troubles new.courier node)

-- The digit of a node in a tally is set.
abbrev pub has_digit : ℕ → ℕ → Bool
has_digit clear node = clear / 2 ^ node % 2 == 1

-- A tally names the clear nodes, fewer than three, the endpoint among them, and no number beyond the five.
pub record IsTallied {D C : Type 0} (faults : D → ℕ) (troubles : C → ℕ → ℕ) (old new : Cluster D C) (endpoint : ℕ) (tally : Tally) : Type 0 where
  pub slot : tally.slot ≡ closed_len (kept (at old.nodes endpoint))
  pub set : (node : ℕ) → node < 5 → has_digit tally.clear node ≡ true → IsClear faults troubles old new node
  pub unset : (node : ℕ) → node < 5 → has_digit tally.clear node ≡ false → IsNotClear troubles old new node
  pub few : ¬ ByThree (λ node. has_digit tally.clear node ≡ true)
  pub own : has_digit tally.clear endpoint ≡ true
  pub five : tally.clear < 32

-- The slot closed with this command, for good: the endpoint's own entry says so, and whichever possible lists are chosen,
-- three of them hold votes of one ballot for it.
pub record IsSettled {D : Type 0} (new : Five (Node D)) (endpoint slot : ℕ) (c : Command) : Type 0 where
  pub closed : HasClosed (at new endpoint) slot c
  pub voted : IsVotedForGood new slot c

-- The endpoint's node isn't up: it wasn't, and then nothing has changed; or its disk failed, or its journal is full.
abbrev pub IsDown : {D C : Type 0} (faults : D → ℕ) → Cluster D C → Cluster D C → ℕ → Type 0
IsDown faults old new endpoint =
    (is_up (at new.nodes endpoint) ≡ false)
    × (((is_up (at old.nodes endpoint) ≡ false) × (new ≡ old))
    ⊎ ((is_up (at old.nodes endpoint) ≡ true)
    × (HasRisen (faults (disk_in (at old.nodes endpoint))) (faults (disk_in (at new.nodes endpoint)))
    ⊎ (length (kept (at new.nodes endpoint)) ≡ limit_of (at new.nodes endpoint)))))

-- The endpoint gave a promise at the slot since, in a ballot of its own that is above its former promise.
abbrev pub HasNewPromise : {D : Type 0} → Five (Node D) → Five (Node D) → ℕ → ℕ → Type 0
HasNewPromise old new endpoint slot =
    (ballot : ℕ) × (ballot % 5 ≡ endpoint) × (promise (kept (at old endpoint)) < ballot)
    × Contains (kept (at new endpoint)) (Promised slot ballot)

-- How an attempt at an endpoint ended, by what it answers. After want of memory the endpoint is up as it was, and nothing is
-- said of who was clear.
abbrev pub EndsAttempt : {D C : Type 0} (faults : D → ℕ) (troubles : C → ℕ → ℕ) → Cluster D C → Cluster D C → ℕ → Command → Attempt → Type 0
EndsAttempt faults troubles old new endpoint c (Placed slot) =
    (slot ≡ closed_len (kept (at old.nodes endpoint))) × (closed_len (kept (at new.nodes endpoint)) ≡ slot + 1) × IsSettled new.nodes endpoint slot c
EndsAttempt faults troubles old new endpoint c (Other slot) =
    (slot ≡ closed_len (kept (at old.nodes endpoint))) × (closed_len (kept (at new.nodes endpoint)) ≡ slot + 1)
    × ((other : Command) × (other ≢ c) × IsSettled new.nodes endpoint slot other)
EndsAttempt faults troubles old new endpoint c (Disturbed tally) =
    IsTallied faults troubles old new endpoint tally
    × (closed_len (kept (at new.nodes endpoint)) ≡ closed_len (kept (at old.nodes endpoint)))
    × HasNewPromise old.nodes new.nodes endpoint tally.slot
EndsAttempt faults troubles old new endpoint c (NodeDown node) = (node ≡ endpoint) × IsDown faults old new endpoint
EndsAttempt faults troubles old new endpoint c (ListFull length) =
    (length ≡ slots_in (at old.nodes endpoint)) × (length ≡ closed_len (kept (at old.nodes endpoint))) × (new ≡ old)
EndsAttempt faults troubles old new endpoint c Memory = (is_up (at old.nodes endpoint) ≡ true) × (is_up (at new.nodes endpoint) ≡ true)

-- An attempt at a full list ends so, and no other does.
abbrev pub IsFullExactly : {D C : Type 0} → Cluster D C → ℕ → Attempt → Type 0
IsFullExactly old endpoint result =
    closed_len (kept (at old.nodes endpoint)) ≡ slots_in (at old.nodes endpoint) → (length : ℕ) × (result ≡ ListFull length)

-- A peer to which the courier is silent.
abbrev pub IsSilentPeer : {C : Type 0} (is_silent : C → ℕ → Type 0) → C → ℕ → ℕ → Type 0
IsSilentPeer is_silent courier endpoint peer = (peer ≢ endpoint) × is_silent courier peer

-- A peer that is absent: the courier is silent to it, or its node isn't up.
abbrev pub IsAbsentPeer : {D C : Type 0} (is_silent : C → ℕ → Type 0) → Cluster D C → ℕ → ℕ → Type 0
IsAbsentPeer is_silent old endpoint peer = (peer ≢ endpoint) × (is_silent old.courier peer ⊎ (is_up (at old.nodes peer) ≡ false))

-- No node has applied the command.
abbrev pub IsAppliedNowhere : {D : Type 0} → Five (Node D) → Command → Type 0
IsAppliedNowhere nodes c = (node : ℕ) → node < 5 → ¬ Contains (applied (kept (at nodes node))) c

-- A peer to which the courier is silent keeps the list that it kept. Where three peers are absent and no node has applied the
-- command, it isn't placed.
pub record StaysSilent {D C : Type 0} (is_silent : C → ℕ → Type 0) (old new : Cluster D C) (endpoint : ℕ) (c : Command) (result : Attempt) : Type 0 where
  pub lists : (peer : ℕ) → peer < 5 → IsSilentPeer is_silent old.courier endpoint peer → kept (at new.nodes peer) ≡ kept (at old.nodes peer)
  pub not_placed : ByThree (IsAbsentPeer is_silent old endpoint) → IsAppliedNowhere old.nodes c → (slot : ℕ) → result ≢ Placed slot

-- A peer's count of troubles rose by one, or stayed.
abbrev pub HasRisenOnce : ℕ → ℕ → Type 0
HasRisenOnce before now = (now ≡ before) ⊎ (now ≡ next_count before)

-- No peer met trouble twice.
abbrev pub MetTroubleOnce : {C : Type 0} (troubles : C → ℕ → ℕ) → C → C → Type 0
MetTroubleOnce troubles old new = (peer : ℕ) → peer < 5 → HasRisenOnce (troubles old peer) (troubles new peer)

-- Whether a node is a peer of an attempt: an up node other than the endpoint's.
abbrev pub is_peer : {D : Type 0} → Five (Node D) → ℕ → ℕ → Bool
is_peer nodes endpoint node = not (node == endpoint) && is_up (at nodes node)

-- How often a peer's fate is asked in an attempt at most: once in each of the four phases beside that which tells it what it
-- lacks, and there once for each 16 commands that it lacks below the slot, or part of them. No other node's is asked.
abbrev pub most_asked : {D : Type 0} → Five (Node D) → ℕ → ℕ → ℕ
most_asked nodes endpoint peer =
    if is_peer nodes endpoint peer
    then 4 + (closed_len (kept (at nodes endpoint)) - closed_len (kept (at nodes peer)) + 15) / 16 else 0
