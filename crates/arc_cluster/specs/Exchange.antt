-- What becomes of an exchange with each node.
use Rattle.std.specs.Prelude.{ℕ, ◌≡◌, ◌≢◌, ◌<◌, ◌≤◌, ◌⊎◌, ◌==◌, Bool, true, false, Option, None, Some, List, [], ◌∷◌, length, if◌then◌else◌}
use Rattle.arc_bytes.specs.Counts.{HasRisen}
use Rattle.arc_bytes.specs.Five.{at}
use Rattle.arc_bytes.specs.declared.five.Five.{Five}
use Rattle.arc_data.specs.declared.message.Answer.{Answer}
use Rattle.arc_data.specs.declared.message.Message.{Message}
use Rattle.arc_data.specs.declared.record.Record.{Record}
use Rattle.arc_node.specs.declared.node.Node.{Node}
use Rattle.arc_node.specs.Handling.{IsReceivable}
use Rattle.arc_node.specs.Node.{is_up, kept, slots_in}
use Rattle.arc_voting.specs.Handled.{appended}
use Rattle.arc_voting.specs.Journals.{Journals}
use Rattle.arc_voting.specs.Lawful.{Mail, AllStaysLawful, StaysLawful}
use Rattle.arc_voting.specs.Turn.{Turn, IsTurn}
use Rattle.arc_cluster.specs.declared.cluster.Cluster.{Cluster}
use Rattle.arc_cluster.specs.declared.work.Work.{Work}
use Rattle.arc_cluster.specs.Handling.{AnswersLast, AreReceivable, IsGrownBy}
use Rattle.arc_cluster.specs.Nodes.{IsChoice}
use Rattle.arc_cluster.specs.Work.{is_for}

-- A message may be sent to any node: it is within the limits and stays lawful, whichever possible lists are chosen.
pub record MayBeSent {D : Type 0} (nodes : Five (Node D)) (message : Message) : Type 0 where
  pub receivable : IsReceivable (slots_in nodes.d0) message
  pub lawful : (js : Journals) → IsChoice nodes js → StaysLawful js message

-- So may all messages of this mail, which goes to the endpoint and to peers that are in alone, at most 16 to each.
pub record MayBeExchanged {D : Type 0} (nodes : Five (Node D)) (work : Work) (mail : Mail) : Type 0 where
  pub receivable : (node : ℕ) → node < 5 → AreReceivable (at nodes node) (mail node)
  pub lawful : (js : Journals) → IsChoice nodes js → AllStaysLawful js mail
  pub to_those_in : (node : ℕ) → node < 5 → mail node ≢ [] → is_for work true node ≡ true
  pub few : (node : ℕ) → node < 5 → length (mail node) ≤ 16

-- What became of an exchange of these messages with a node, with its count of troubles before and after it. Where an answer
-- is there, the node is up, and it is that to the last message; the node is in if it was, and there was no trouble. Where
-- none came, the node is out: it isn't up, or there was trouble. With no messages nothing changes.
pub record Exchanged {D : Type 0} (old new : Node D) (messages : List Message) (answer : Option Answer) (was_in is_in : Bool)
    (before after : ℕ) : Type 0 where
  pub answered : (a : Answer) → answer ≡ Some a → AnswersLast old new messages a × (is_in ≡ was_in) × (after ≡ before)
  pub unanswered : answer ≡ None → messages ≢ [] → (is_in ≡ false) × ((is_up new ≡ false) ⊎ HasRisen before after)
  pub idle : messages ≡ [] → (new ≡ old) × (answer ≡ None) × (is_in ≡ was_in) × (after ≡ before)
  pub grown : IsGrownBy messages (kept old) (kept new)

-- There is a message.
abbrev pub has_messages : List Message → Bool
has_messages [] = false
has_messages (message ∷ later) = true

-- What five nodes keep has grown by some of their messages; and one that is handed nothing stays as it is.
abbrev pub AllGrow : {D : Type 0} → Five (Node D) → Five (Node D) → Mail → Type 0
AllGrow old new mail = (node : ℕ) → node < 5 →
    IsGrownBy (mail node) (kept (at old node)) (kept (at new node)) × (mail node ≡ [] → at new node ≡ at old node)

-- So it is with each of the five; and no answer comes from a peer to which the courier is silent.
pub record AllExchanged {D C : Type 0} (troubles : C → ℕ → ℕ) (is_silent : C → ℕ → Type 0) (old new : Cluster D C)
    (before after : Work) (mail : Mail) (answers : Five (Option Answer)) : Type 0 where
  pub each : (node : ℕ) → node < 5 → Exchanged (at old.nodes node) (at new.nodes node) (mail node) (at answers node)
      (at before.peers node) (at after.peers node) (troubles old.courier node) (troubles new.courier node)
  pub silent : (node : ℕ) → node < 5 → node ≢ before.endpoint → is_silent old.courier node → at answers node ≡ None
  pub own : mail before.endpoint ≢ [] → at answers before.endpoint ≡ None → is_up (at new.nodes before.endpoint) ≡ false

-- One message to each node that it is for.
abbrev pub sent : Work → Bool → Message → Mail
sent work own_too message node = if is_for work own_too node then message ∷ [] else []

-- A node that kept the one journal takes this turn for a message, and keeps the other one.
abbrev pub Turns : List Record → Message → List Record → Turn → Type 0
Turns journal message after turn = IsTurn journal message turn × (after ≡ appended journal turn.append)

-- What became of one message that was for this node or not.
pub record Sent {D : Type 0} (old new : Node D) (message : Message) (for_it : Bool) (answer : Option Answer) (was_in is_in : Bool)
    (before after : ℕ) : Type 0 where
  pub answered : (a : Answer) → answer ≡ Some a → (for_it ≡ true) × (is_up new ≡ true) × (is_in ≡ was_in) × (after ≡ before)
      × ((turn : Turn) × Turns (kept old) message (kept new) turn × (a ≡ turn.reply))
  pub unanswered : answer ≡ None → for_it ≡ true → (is_in ≡ false) × ((is_up new ≡ false) ⊎ HasRisen before after)
  pub idle : for_it ≡ false → (new ≡ old) × (answer ≡ None) × (is_in ≡ was_in) × (after ≡ before)
  pub grown : (kept new ≡ kept old) ⊎ ((turn : Turn) × Turns (kept old) message (kept new) turn)

-- So it is with each of the five; and no answer comes from a peer to which the courier is silent.
pub record AllSent {D C : Type 0} (troubles : C → ℕ → ℕ) (is_silent : C → ℕ → Type 0) (old new : Cluster D C)
    (before after : Work) (message : Message) (own_too : Bool) (answers : Five (Option Answer)) : Type 0 where
  pub each : (node : ℕ) → node < 5 → Sent (at old.nodes node) (at new.nodes node) message (is_for before own_too node)
      (at answers node) (at before.peers node) (at after.peers node) (troubles old.courier node) (troubles new.courier node)
  pub silent : (node : ℕ) → node < 5 → node ≢ before.endpoint → is_silent old.courier node → at answers node ≡ None
  pub own : own_too ≡ true → at answers before.endpoint ≡ None → is_up (at new.nodes before.endpoint) ≡ false

-- What became of a message to the endpoint's own node alone: it answers by its turn, or isn't up then. The others stay as
-- they are.
pub record OwnHandled {D : Type 0} (old new : Five (Node D)) (endpoint : ℕ) (message : Message) (answers : Five (Option Answer)) : Type 0 where
  pub answered : (a : Answer) → at answers endpoint ≡ Some a → (is_up (at new endpoint) ≡ true)
      × ((turn : Turn) × Turns (kept (at old endpoint)) message (kept (at new endpoint)) turn × (a ≡ turn.reply))
  pub unanswered : at answers endpoint ≡ None → is_up (at new endpoint) ≡ false
  pub grown : (kept (at new endpoint) ≡ kept (at old endpoint))
      ⊎ ((turn : Turn) × Turns (kept (at old endpoint)) message (kept (at new endpoint)) turn)
  pub others : (node : ℕ) → node < 5 → node ≢ endpoint → (at new node ≡ at old node) × (at answers node ≡ None)

-- One message to the endpoint's own node alone.
abbrev pub to_own : ℕ → Message → Mail
to_own endpoint message node = if node == endpoint then message ∷ [] else []
