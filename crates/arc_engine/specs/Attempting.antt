-- How the attempts of a call go on, and how they end.
use Rattle.std.specs.Prelude.{ℕ, ◌≡◌, ◌≢◌, ◌<◌, ◌≤◌, ◌+◌, ◌-◌, ◌*◌, ⊤, true, Option, Some, None, List, [], ◌∷◌, ◌++◌, Contains, length}
use Rattle.arc_bytes.specs.Five.{at}
use Rattle.arc_cluster.specs.Attempts.{GivesAtMost, IsAbsentPeer, IsDown, IsSettled, IsSilentPeer}
use Rattle.arc_cluster.specs.Cluster as five
use Rattle.arc_cluster.specs.Onward.{AsksAtMost, ClusterGoesOn}
use Rattle.arc_cluster.specs.declared.attempt.Attempt.{Attempt}
use Rattle.arc_cluster.specs.declared.attempt.Attempt.TheVariants as one
use Rattle.arc_cluster.specs.declared.attempt.Tally.{Tally}
use Rattle.arc_cluster.specs.declared.cluster.Cluster.{Cluster}
use Rattle.arc_data.specs.Entries.{closed_len}
use Rattle.arc_data.specs.declared.command.Command.{Command}
use Rattle.arc_node.specs.Node.{is_up, kept}
use Rattle.arc_voting.specs.Journals.{ByThree}
use Rattle.arc_voting.specs.Lists.{applied}
use Rattle.arc_engine.specs.Calls.{AreTallied, IsFullAt, lacks, most_asked, most_attempts}
use Rattle.arc_engine.specs.Chain.{AttemptsGoOn, EndsWith}
use Rattle.arc_engine.specs.declared.calling.Placing.{Placing}
use Rattle.arc_engine.specs.declared.calling.Placing.TheVariants.{Placed, Disturbed, NodeDown, ListFull, Memory}

-- How the attempts of a command at an endpoint ended.
abbrev pub EndsAttempts : {D C : Type 0} (faults : D → ℕ) (troubles : C → ℕ → ℕ) → Cluster D C → Cluster D C → ℕ → Command → Placing → Type 0
EndsAttempts faults troubles old new endpoint c (Placed slot) =
    IsSettled new.nodes endpoint slot c × (closed_len (kept (at new.nodes endpoint)) ≡ slot + 1)
EndsAttempts faults troubles old new endpoint c (Disturbed tallies) = AreTallied troubles old new endpoint tallies
EndsAttempts faults troubles old new endpoint c (NodeDown node) = (node ≡ endpoint) × IsDown faults old new endpoint
EndsAttempts faults troubles old new endpoint c (ListFull length) = IsFullAt new endpoint length × ¬ Contains (applied (kept (at new.nodes endpoint))) c
EndsAttempts faults troubles old new endpoint c Memory = (is_up (at old.nodes endpoint) ≡ true) × (is_up (at new.nodes endpoint) ≡ true)

-- A peer to which the courier is silent keeps the list that it kept. Where three peers are absent, the command isn't placed.
pub record StaySilent {D C : Type 0} (is_silent : C → ℕ → Type 0) (old new : Cluster D C) (endpoint : ℕ) (result : Placing) : Type 0 where
  pub lists : (peer : ℕ) → peer < 5 → IsSilentPeer is_silent old.courier endpoint peer → kept (at new.nodes peer) ≡ kept (at old.nodes peer)
  pub not_placed : ByThree (IsAbsentPeer is_silent old endpoint) → (slot : ℕ) → result ≢ Placed slot

-- How many slots the endpoint has closed since.
abbrev pub closed_since : {D C : Type 0} → Cluster D C → Cluster D C → ℕ → ℕ
closed_since old now endpoint = closed_len (kept (at now.nodes endpoint)) - closed_len (kept (at old.nodes endpoint))

-- No peer met trouble more often than so.
abbrev pub MeetAtMost : {C : Type 0} (troubles : C → ℕ → ℕ) → C → C → (ℕ → ℕ) → Type 0
MeetAtMost troubles old new most = (peer : ℕ) → peer < 5 → troubles new peer ≤ troubles old peer + most peer

-- How often a peer met trouble at most: as often as there are attempts, and where eight were disturbed as often as tallies lack it
-- and attempts found another's command. Where the endpoint's node went down or memory was wanting, nothing is said.
abbrev pub MeetInTurn : {D C : Type 0} (troubles : C → ℕ → ℕ) → Cluster D C → Cluster D C → ℕ → Placing → Type 0
MeetInTurn troubles old new endpoint (Placed slot) = MeetAtMost troubles old.courier new.courier (λ peer. most_attempts old new endpoint)
MeetInTurn troubles old new endpoint (Disturbed tallies) =
    MeetAtMost troubles old.courier new.courier (λ peer. lacks tallies peer + closed_since old new endpoint)
MeetInTurn troubles old new endpoint (NodeDown node) = ⊤
MeetInTurn troubles old new endpoint (ListFull length) = MeetAtMost troubles old.courier new.courier (λ peer. most_attempts old new endpoint)
MeetInTurn troubles old new endpoint Memory = ⊤

-- The attempts that were made of a command at an endpoint, by how they ended.
abbrev pub MadeInTurn : {D C : Type 0} (faults : D → ℕ) (stops_in : D → Option ℕ) (is_tame : D → Type 0) (troubles : C → ℕ → ℕ)
    → (is_silent : C → ℕ → Type 0) (counts : C → Option (ℕ → ℕ)) → Cluster D C → Cluster D C → ℕ → Command → Placing → Type 0
MadeInTurn faults stops_in is_tame troubles is_silent counts old new endpoint c (Placed slot) =
    EndsWith faults stops_in is_tame troubles is_silent counts old new endpoint c (one.Placed slot)
MadeInTurn faults stops_in is_tame troubles is_silent counts old new endpoint c (Disturbed tallies) =
    AttemptsGoOn faults stops_in is_tame troubles is_silent counts endpoint c old new tallies
MadeInTurn faults stops_in is_tame troubles is_silent counts old new endpoint c (NodeDown node) =
    EndsWith faults stops_in is_tame troubles is_silent counts old new endpoint c (one.NodeDown node)
MadeInTurn faults stops_in is_tame troubles is_silent counts old new endpoint c (ListFull length) =
    EndsWith faults stops_in is_tame troubles is_silent counts old new endpoint c (one.ListFull length)
MadeInTurn faults stops_in is_tame troubles is_silent counts old new endpoint c Memory =
    EndsWith faults stops_in is_tame troubles is_silent counts old new endpoint c one.Memory

-- All that became of the attempts of a command at an endpoint. The meanings of couriers and disks are given: `counts` tells how
-- often a courier was asked.
pub record Attempted {D C : Type 0} (tells : Type 0) (content : D → List ℕ) (may_leave : D → List ℕ → Type 0) (faults : D → ℕ)
    (stops_in : D → Option ℕ) (is_tame : D → Type 0) (troubles : C → ℕ → ℕ) (is_silent : C → ℕ → Type 0) (counts : C → Option (ℕ → ℕ))
    (old new : Cluster D C) (endpoint : ℕ) (c : Command) (result : Placing) : Type 0 where
  pub in_order : five.IsInOrder tells content may_leave new
  pub go_on : ClusterGoesOn faults stops_in is_tame troubles is_silent (λ d. d ≡ c) old new
  pub ends : EndsAttempts faults troubles old new endpoint c result
  pub made : MadeInTurn faults stops_in is_tame troubles is_silent counts old new endpoint c result
  pub silent : StaySilent is_silent old new endpoint result
  pub asked : AsksAtMost (counts old.courier) (counts new.courier) (most_asked old new endpoint)
  pub bounds : GivesAtMost (most_attempts old new endpoint) (2 * most_attempts old new endpoint) old.nodes new.nodes
  pub met : MeetInTurn troubles old new endpoint result

-- What is noted of an attempt that ended so, by the tallies before and after it. The result says how the attempts of the call end,
-- where this one ends them. Otherwise they go on: behind a disturbed attempt with its tally added, behind another's command with
-- the same tallies.
abbrev pub Notes : Attempt → List Tally → List Tally → Option Placing → Type 0
Notes (one.Placed slot) before after result = result ≡ Some (Placed slot)
Notes (one.Other slot) before after result = (result ≡ None) × (after ≡ before)
Notes (one.Disturbed tally) before after result = (result ≡ None) × (after ≡ before ++ tally ∷ [])
Notes (one.NodeDown node) before after result = result ≡ Some (NodeDown node)
Notes (one.ListFull length) before after result = result ≡ Some (ListFull length)
Notes one.Memory before after result = result ≡ Some Memory
