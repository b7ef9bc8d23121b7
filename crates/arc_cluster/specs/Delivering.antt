-- What becomes of a held message that is delivered.
use Rattle.std.specs.Prelude.{ℕ, ◌≡◌, ◌≢◌, ◌<◌, ◌≤◌, Some, List, length}
use Rattle.std.specs.List.{slice_get}
use Rattle.arc_bytes.specs.Five.{at}
use Rattle.arc_bytes.specs.declared.five.Five.{Five}
use Rattle.arc_node.specs.Handling.{EndsHandling, NeedsMemory}
use Rattle.arc_node.specs.Node.{kept}
use Rattle.arc_node.specs.declared.handle_end.HandleEnd.{HandleEnd}
use Rattle.arc_node.specs.declared.handle_end.HandleEnd.TheVariants as ends
use Rattle.arc_node.specs.declared.node.Node.{Node}
use Rattle.arc_voting.specs.Turn.{Turn, IsTurn}
use Rattle.arc_cluster.specs.declared.delivering.Delivered.{Delivered}
use Rattle.arc_cluster.specs.declared.delivering.Delivered.TheVariants.{Answered, NodeDown, NoSuch, Memory}
use Rattle.arc_cluster.specs.declared.held.Envelope.{Envelope}

-- How a delivery to this node ends where its handling ends so.
abbrev pub delivered_of : ℕ → HandleEnd → Delivered
delivered_of to (ends.Answered reply) = Answered reply
delivered_of to ends.Down = NodeDown to
delivered_of to ends.Memory = Memory

-- The receiver of an envelope handled its message, and that ended as the delivery tells. A node that is named is the receiver;
-- and memory was wanting only where the turn of the table needs some.
abbrev pub EndsDelivery : {D : Type 0} (faults : D → ℕ) → Node D → Node D → Envelope → Delivered → Type 0
EndsDelivery faults old new envelope (Answered reply) = EndsHandling faults old new envelope.message (ends.Answered reply)
EndsDelivery faults old new envelope (NodeDown node) =
    (node ≡ envelope.to) × EndsHandling faults old new envelope.message ends.Down
EndsDelivery faults old new envelope (NoSuch held) = ⊥
EndsDelivery faults old new envelope Memory =
    EndsHandling faults old new envelope.message ends.Memory
    × ((turn : Turn) → IsTurn (kept old) envelope.message turn → NeedsMemory old turn)

-- The envelope with this number was delivered to its receiver, and to no other node.
pub record DeliversEnvelope {D : Type 0} (faults : D → ℕ) (old new : Five (Node D)) (envelopes : List Envelope) (k : ℕ)
    (result : Delivered) : Type 0 where
  pub envelope : Envelope
  pub there : slice_get envelopes k ≡ Some envelope
  pub ends : EndsDelivery faults (at old envelope.to) (at new envelope.to) envelope result
  pub others : (other : ℕ) → other < 5 → other ≢ envelope.to → at new other ≡ at old other

-- There is no envelope with this number, but so many; and no node changed.
pub record HasNoEnvelope {D : Type 0} (old new : Five (Node D)) (envelopes : List Envelope) (k held : ℕ) : Type 0 where
  pub counted : held ≡ length envelopes
  pub beyond : held ≤ k
  pub unchanged : new ≡ old

-- What a delivery made of five nodes.
abbrev pub Delivers : {D : Type 0} (faults : D → ℕ) → Five (Node D) → Five (Node D) → List Envelope → ℕ → Delivered → Type 0
Delivers faults old new envelopes k (Answered reply) = DeliversEnvelope faults old new envelopes k (Answered reply)
Delivers faults old new envelopes k (NodeDown node) = DeliversEnvelope faults old new envelopes k (NodeDown node)
Delivers faults old new envelopes k (NoSuch held) = HasNoEnvelope old new envelopes k held
Delivers faults old new envelopes k Memory = DeliversEnvelope faults old new envelopes k Memory
