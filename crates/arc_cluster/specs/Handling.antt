-- What nodes make of their messages.
use Rattle.std.specs.Prelude.{ℕ, ◌≡◌, ◌<◌, ◌⊎◌, true, false, Option, Some, None, List, [], ◌∷◌, ◌++◌, All, length, take}
use Rattle.std.specs.List.{slice_get}
use Rattle.std.specs.Borrow.{Bor}
use Rattle.std.specs.Global.{Vec}
use Rattle.arc_bytes.specs.Counts.{HasRisen}
use Rattle.arc_bytes.specs.Five.{at}
use Rattle.arc_bytes.specs.declared.five.Five.{Five}
use Rattle.arc_data.specs.declared.message.Answer.{Answer}
use Rattle.arc_data.specs.declared.message.Message.{Message}
use Rattle.arc_data.specs.declared.record.Record.{Record}
use Rattle.arc_node.specs.declared.node.Node.{Node}
use Rattle.arc_node.specs.Handling.{IsReceivable}
use Rattle.arc_node.specs.Node.{disk_in, is_up, kept, limit_of, slots_in, HasVotesInPlace, IsInOrder, IsPossible}
use Rattle.arc_voting.specs.Handled.{Handles, appended}
use Rattle.arc_voting.specs.Lawful.{Mail, IsLawful}
use Rattle.arc_voting.specs.Journals.{Journals}
use Rattle.arc_voting.specs.Turn.{Turn, IsTurn}
use Rattle.arc_cluster.specs.Nodes.{IsChoice}

-- The messages to each node.
abbrev pub mail_of : Five (Vec Message) → Mail
mail_of five node = (at five node).items

-- The messages that each node is lent.
abbrev pub lent_to : Five (Bor (List Message)) → Mail
lent_to five node = (at five node).now

-- No node has answered.
abbrev pub none_of_five : Five (Option Answer)
none_of_five = record { d0 = None; d1 = None; d2 = None; d3 = None; d4 = None }

-- Messages within the limits of a node.
abbrev pub AreReceivable : {D : Type 0} → Node D → List Message → Type 0
AreReceivable node messages = All (IsReceivable (slots_in node)) messages

-- A node may handle these messages, one after another: it is in order with its votes in place, and they are within its limits.
pub record MayHandle {D : Type 0} (tells : Type 0) (content : D → List ℕ) (may_leave : D → List ℕ → Type 0)
    (node : Node D) (messages : List Message) : Type 0 where
  pub in_order : IsInOrder tells content may_leave node
  pub in_place : HasVotesInPlace node
  pub receivable : AreReceivable node messages

-- The mail may be handled: each message is within the limits and lawful, whichever possible lists are chosen.
pub record MayBeHandled {D : Type 0} (nodes : Five (Node D)) (mail : Mail) : Type 0 where
  pub receivable : (node : ℕ) → node < 5 → AreReceivable (at nodes node) (mail node)
  pub lawful : (js : Journals) → IsChoice nodes js → IsLawful js mail

-- One list is another one with what a node appends on the first messages, however many these are.
abbrev pub IsGrownBy : List Message → List Record → List Record → Type 0
IsGrownBy messages before after = (count : ℕ) × Handles (take count messages) before after

-- A node went down over a message, having handled those before: it had to append an entry, and its disk failed, or its
-- journal is full.
pub record FallsOver {D : Type 0} (faults : D → ℕ) (old new : Node D) (messages : List Message) : Type 0 where
  pub count : ℕ
  pub message : Message
  pub there : slice_get messages count ≡ Some message
  pub handled : Handles (take count messages) (kept old) (kept new)
  pub turn : Turn
  pub by_the_table : IsTurn (kept new) message turn
  pub entry : Record
  pub needed : turn.append ≡ Some entry
  pub cause : HasRisen (faults (disk_in old)) (faults (disk_in new)) ⊎ (length (kept new) ≡ limit_of new)

-- What became of a node that was handed these messages. Each list that its disk may have then is one that it might have had
-- before, with what the node appends on the first messages. One that is up then was so, and its disk didn't fail; an up one
-- that isn't went down over a message. One that wasn't up, and one that is handed nothing, stays as it is.
pub record HandlesAll {D : Type 0} (faults : D → ℕ) (old new : Node D) (messages : List Message) : Type 0 where
  pub lists : (after : List Record) → IsPossible new after →
      (before : List Record) × IsPossible old before × IsGrownBy messages before after
  pub grown : IsGrownBy messages (kept old) (kept new)
  pub was_up : is_up new ≡ true → (is_up old ≡ true) × (faults (disk_in new) ≡ faults (disk_in old))
  pub fallen : is_up old ≡ true → is_up new ≡ false → FallsOver faults old new messages
  pub still : is_up old ≡ false → new ≡ old
  pub idle : messages ≡ [] → new ≡ old

-- The answer to the last message, by an up node that handled all of them.
pub record AnswersLast {D : Type 0} (old new : Node D) (messages : List Message) (answer : Answer) : Type 0 where
  pub up : is_up new ≡ true
  pub first : List Message
  pub last : Message
  pub all : messages ≡ first ++ last ∷ []
  pub reached : List Record
  pub handled : Handles first (kept old) reached
  pub turn : Turn
  pub by_the_table : IsTurn reached last turn
  pub told : answer ≡ turn.reply
  pub entries : kept new ≡ appended reached turn.append

-- The answer of a node; none exactly where there was no message, or where the node isn't up then.
abbrev pub AnswersAs : {D : Type 0} → Node D → Node D → List Message → Option Answer → Type 0
AnswersAs old new messages None = (messages ≡ []) ⊎ (is_up new ≡ false)
AnswersAs old new messages (Some answer) = AnswersLast old new messages answer

-- What became of five nodes that were handed their mail, and what they answered, unless memory was wanting.
abbrev pub AllHandle : {D : Type 0} → (D → ℕ) → Five (Node D) → Five (Node D) → Mail → Type 0
AllHandle faults old new mail = (node : ℕ) → node < 5 → HandlesAll faults (at old node) (at new node) (mail node)

abbrev pub AllAnswer : {D : Type 0} → Five (Node D) → Five (Node D) → Mail → Five (Option Answer) → Type 0
AllAnswer old new mail answers = (node : ℕ) → node < 5 → AnswersAs (at old node) (at new node) (mail node) (at answers node)

-- Each of five nodes may handle its mail.
abbrev pub AllMayHandle : {D : Type 0} → Type 0 → (D → List ℕ) → (D → List ℕ → Type 0) → Five (Node D) → Mail → Type 0
AllMayHandle tells content may_leave nodes mail =
    (node : ℕ) → node < 5 → MayHandle tells content may_leave (at nodes node) (mail node)
