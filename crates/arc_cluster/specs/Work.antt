-- What an attempt works with, and who is in it.
use Rattle.std.specs.Prelude.{ℕ, ◌≡◌, ◌<◌, ◌⊎◌, ◌==◌, ◌||◌, ◌&&◌, Bool, true, false}
use Rattle.arc_bytes.specs.Counts.{HasRisen, next_count}
use Rattle.arc_bytes.specs.Five.{at}
use Rattle.arc_bytes.specs.declared.five.Five.{Five}
use Rattle.arc_data.specs.Entries.{closed_len}
use Rattle.arc_node.specs.declared.node.Node.{Node}
use Rattle.arc_node.specs.Node.{is_up, kept, slots_in}
use Rattle.arc_cluster.specs.declared.cluster.Cluster.{Cluster}
use Rattle.arc_cluster.specs.declared.work.Work.{Work}

-- The endpoint is one of the five, and none of the peers; each peer that is in is up.
pub record HasPeers {D : Type 0} (nodes : Five (Node D)) (work : Work) : Type 0 where
  pub of_five : work.endpoint < 5
  pub own_out : at work.peers work.endpoint ≡ false
  pub in_up : (peer : ℕ) → peer < 5 → at work.peers peer ≡ true → is_up (at nodes peer) ≡ true

-- An attempt is under way: its endpoint is up and stands at the slot, below the greatest length of the list.
pub record IsUnderWay {D : Type 0} (nodes : Five (Node D)) (work : Work) : Type 0 where
  pub peers : HasPeers nodes work
  pub up : is_up (at nodes work.endpoint) ≡ true
  pub open_slot : work.slot ≡ closed_len (kept (at nodes work.endpoint))
  pub below : work.slot < slots_in (at nodes work.endpoint)

-- It is the same attempt: at this endpoint and slot.
pub record IsSameWork (before after : Work) : Type 0 where
  pub endpoint : after.endpoint ≡ before.endpoint
  pub slot : after.slot ≡ before.slot

-- Of the peers that were in, those are in still that are up, and whose exchanges met no trouble; one that is out now isn't
-- up, or its exchange met trouble. No peer comes in.
pub record PeersGoOn {D C : Type 0} (troubles : C → ℕ → ℕ) (old new : Cluster D C) (before after : Work) : Type 0 where
  pub same : IsSameWork before after
  pub are_in : (peer : ℕ) → peer < 5 → at after.peers peer ≡ true →
      (at before.peers peer ≡ true) × (is_up (at new.nodes peer) ≡ true) × (troubles new.courier peer ≡ troubles old.courier peer)
  pub are_out : (peer : ℕ) → peer < 5 → at before.peers peer ≡ true → at after.peers peer ≡ false →
      (is_up (at new.nodes peer) ≡ false) ⊎ HasRisen (troubles old.courier peer) (troubles new.courier peer)
  pub others : (peer : ℕ) → peer < 5 → at before.peers peer ≡ false → troubles new.courier peer ≡ troubles old.courier peer
  pub once : (peer : ℕ) → peer < 5 → (troubles new.courier peer ≡ troubles old.courier peer)
      ⊎ (troubles new.courier peer ≡ next_count (troubles old.courier peer))

-- Nobody meets trouble but peers that were in, and each of these once at most.
abbrev pub MeetOnce : {C : Type 0} (troubles : C → ℕ → ℕ) → C → C → Work → Type 0
MeetOnce troubles before after work = (peer : ℕ) → peer < 5 → (troubles after peer ≡ troubles before peer)
    ⊎ ((at work.peers peer ≡ true) × (troubles after peer ≡ next_count (troubles before peer)))

-- A message that goes to the peers that are in goes to this node; it goes to the endpoint's own node where it is to.
abbrev pub is_for : Work → Bool → ℕ → Bool
is_for work own_too node = at work.peers node || (own_too && (node == work.endpoint))

-- The node takes part: it is the endpoint, or a peer that is in.
abbrev pub TakesPart : Work → ℕ → Type 0
TakesPart work node = (node ≡ work.endpoint) ⊎ (at work.peers node ≡ true)
