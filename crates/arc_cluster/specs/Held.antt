-- Messages that are held: they can be delivered later, again and again.
use Rattle.std.specs.Prelude.{ℕ, ◌<◌, ◌≤◌, List, [], ◌∷◌, ◌++◌, if◌then◌else◌, nat_lt, Contains, length}
use Rattle.std.specs.List.{fold}
use Rattle.arc_bytes.specs.declared.five.Five.{Five}
use Rattle.arc_data.specs.declared.message.Message.{Message}
use Rattle.arc_node.specs.declared.node.Node.{Node}
use Rattle.arc_node.specs.Handling.{IsReceivable}
use Rattle.arc_node.specs.Node.{slots_in}
use Rattle.arc_voting.specs.Journals.{Journals}
use Rattle.arc_voting.specs.Lawful.{StaysLawful}
use Rattle.arc_cluster.specs.declared.held.Envelope.{Envelope}
use Rattle.arc_cluster.specs.Nodes.{IsChoice}

-- A held message is for one of the five, within its limits, and stays lawful, whichever possible lists are chosen.
pub record MayBeHeld {D : Type 0} (nodes : Five (Node D)) (envelope : Envelope) : Type 0 where
  pub of_five : envelope.to < 5
  pub receivable : IsReceivable (slots_in nodes.d0) envelope.message
  pub lawful : (js : Journals) → IsChoice nodes js → StaysLawful js envelope.message

-- All of them may be held, and there are at most 4,096.
pub record AreHeld {D : Type 0} (nodes : Five (Node D)) (envelopes : List Envelope) : Type 0 where
  pub each : (envelope : Envelope) → Contains envelopes envelope → MayBeHeld nodes envelope
  pub few : length envelopes ≤ 4096

-- The envelopes with one more behind them; where they are 4,096, that one is lost.
abbrev pub with_envelope : List Envelope → Envelope → List Envelope
with_envelope envelopes envelope = if nat_lt (length envelopes) 4096 then envelopes ++ envelope ∷ [] else envelopes

-- The envelopes with each of these messages to a node behind them, in order.
abbrev pub with_envelopes : List Envelope → ℕ → List Message → List Envelope
with_envelopes envelopes to messages =
    fold (λ held message. with_envelope held (record { to = to; message = message })) envelopes messages
