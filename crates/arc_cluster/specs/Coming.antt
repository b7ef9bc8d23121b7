-- How far an attempt has come since its start, and how it ended.
use Rattle.std.specs.Prelude.{ℕ, ◌≡◌, ◌<◌, ◌≤◌, ◌+◌, ◌-◌, ◌/◌, true, false, Option, List, if◌then◌else◌}
use Rattle.arc_bytes.specs.Five.{at}
use Rattle.arc_data.specs.Entries.{closed_len, promise}
use Rattle.arc_data.specs.declared.command.Command.{Command}
use Rattle.arc_node.specs.Node.{is_up, kept}
use Rattle.arc_voting.specs.Journals.{ByThree}
use Rattle.arc_cluster.specs.declared.attempt.Attempt.{Attempt}
use Rattle.arc_cluster.specs.declared.cluster.Cluster.{Cluster}
use Rattle.arc_cluster.specs.declared.work.Work.{Work}
use Rattle.arc_cluster.specs.Attempts.{EndsAttempt, IsAbsentPeer, IsAppliedNowhere, IsSilentPeer, MetTroubleOnce, StaysSilent, is_peer, most_asked}
use Rattle.arc_cluster.specs.Onward.{AsksAtMost, ClusterGoesOn}
use Rattle.arc_cluster.specs.Phases.{MayBeAttempted}
use Rattle.arc_cluster.specs.Work.{PeersGoOn}

-- How often the fate of each peer that is in is asked still, where so many phases are left.
abbrev pub asks_left : ℕ → Work → ℕ → ℕ
asks_left phases work peer = if at work.peers peer then phases else 0

-- The same, where the peers that are in are told first what they lack.
abbrev pub asks_left_to_tell : Work → ℕ → ℕ
asks_left_to_tell work peer = if at work.peers peer then (work.slot - at work.lengths peer + 15) / 16 + 3 else 0

-- How far an attempt for a command has come since its start, with the highest ballot that was shown and what may be asked
-- still. It began at an up node's open slot; by now peers are out to which the courier is silent, and these keep what they
-- kept; and no peer's fate was asked so often that what is left would be too much.
pub record HasCome {D C : Type 0} (faults : D → ℕ) (stops_in : D → Option ℕ) (is_tame : D → Type 0) (troubles : C → ℕ → ℕ)
    (is_silent : C → ℕ → Type 0) (asked : C → Option (ℕ → ℕ)) (start now : Cluster D C) (work : Work) (c : Command) (shown : ℕ)
    (left : ℕ → ℕ) : Type 0 where
  pub of_five : work.endpoint < 5
  pub was_up : is_up (at start.nodes work.endpoint) ≡ true
  pub slot : work.slot ≡ closed_len (kept (at start.nodes work.endpoint))
  pub above : promise (kept (at start.nodes work.endpoint)) ≤ shown
  pub on : ClusterGoesOn faults stops_in is_tame troubles is_silent (λ d. d ≡ c) start now
  pub first : Work
  pub first_in : (peer : ℕ) → peer < 5 → at first.peers peer ≡ is_peer start.nodes work.endpoint peer
  pub peers : PeersGoOn troubles start now first work
  pub few : ℕ → ℕ
  pub asks : AsksAtMost (asked start.courier) (asked now.courier) few
  pub room : (peer : ℕ) → peer < 5 → few peer + left peer ≤ most_asked start.nodes work.endpoint peer
  pub out : (peer : ℕ) → peer < 5 → is_silent start.courier peer → at work.peers peer ≡ false
  pub lists : (peer : ℕ) → peer < 5 → IsSilentPeer is_silent start.courier work.endpoint peer → kept (at now.nodes peer) ≡ kept (at start.nodes peer)

-- All that became of an attempt.
pub record Ended {D C : Type 0} (faults : D → ℕ) (stops_in : D → Option ℕ) (is_tame : D → Type 0) (troubles : C → ℕ → ℕ)
    (is_silent : C → ℕ → Type 0) (asked : C → Option (ℕ → ℕ)) (start new : Cluster D C) (endpoint : ℕ) (c : Command) (result : Attempt) : Type 0 where
  pub on : ClusterGoesOn faults stops_in is_tame troubles is_silent (λ d. d ≡ c) start new
  pub ends : EndsAttempt faults troubles start new endpoint c result
  pub silent : StaysSilent is_silent start new endpoint c result
  pub asks : AsksAtMost (asked start.courier) (asked new.courier) (most_asked start.nodes endpoint)
  pub once : MetTroubleOnce troubles start.courier new.courier

-- From wherever the attempt began that has come so far, this became of it.
abbrev pub EndsFrom : {D C : Type 0} (faults : D → ℕ) (stops_in : D → Option ℕ) (is_tame : D → Type 0) (troubles : C → ℕ → ℕ)
    → (is_silent : C → ℕ → Type 0) (asked : C → Option (ℕ → ℕ)) → Cluster D C → Cluster D C → Work → Command → (shown : ℕ) → (left : ℕ → ℕ) → Attempt → Type 0
EndsFrom {D} {C} faults stops_in is_tame troubles is_silent asked old new work c shown left result = (start : Cluster D C) →
    HasCome faults stops_in is_tame troubles is_silent asked start old work c shown left →
    Ended faults stops_in is_tame troubles is_silent asked start new work.endpoint c result

-- A command that the endpoint closes its slot with is another one than that of the attempt, or some node had applied that, or no
-- three peers were absent.
abbrev pub MayBePlaced : {D C : Type 0} (is_silent : C → ℕ → Type 0) → Cluster D C → ℕ → Command → Command → Type 0
MayBePlaced is_silent start endpoint c command =
    command ≡ c → ByThree (IsAbsentPeer is_silent start endpoint) → ¬ IsAppliedNowhere start.nodes c

-- The same, where the endpoint closes its slot with this command.
abbrev pub ClosesFrom : {D C : Type 0} (faults : D → ℕ) (stops_in : D → Option ℕ) (is_tame : D → Type 0) (troubles : C → ℕ → ℕ)
    → (is_silent : C → ℕ → Type 0) (asked : C → Option (ℕ → ℕ)) → Cluster D C → Cluster D C → Work → Command → Command → (left : ℕ → ℕ) → Attempt → Type 0
ClosesFrom {D} {C} faults stops_in is_tame troubles is_silent asked old new work c command left result = (start : Cluster D C) (shown : ℕ) →
    HasCome faults stops_in is_tame troubles is_silent asked start old work c shown left → MayBePlaced is_silent start work.endpoint c command →
    Ended faults stops_in is_tame troubles is_silent asked start new work.endpoint c result
