-- What a node makes of a message.
use Rattle.std.specs.Prelude.{ℕ, ◌≡◌, ◌⊎◌, ◌<◌, ⊤, true, false, None, Some, IfSome, List, [], ◌∷◌, ◌++◌, length}
use Rattle.arc_acceptor.specs.Answering.{CopiesCommand}
use Rattle.arc_bytes.specs.Counts.{HasRisen}
use Rattle.arc_disk.specs.Disk.{LeavesOnly}
use Rattle.arc_journal.specs.Image.{IsJournalOf}
use Rattle.arc_data.specs.Valid.{IsValidCommand}
use Rattle.arc_data.specs.declared.record.Record.{Record}
use Rattle.arc_data.specs.declared.message.Answer.{Answer}
use Rattle.arc_data.specs.declared.message.Answer.TheVariants.{At, Known, Behind, Refused, Promise, Accepted, Learned}
use Rattle.arc_data.specs.declared.message.Message.{Message}
use Rattle.arc_data.specs.declared.message.Message.TheVariants.{Status, Prepare, Accept, Learn}
use Rattle.arc_voting.specs.Handled.{appended}
use Rattle.arc_voting.specs.Turn.{Turn, IsTurn}
use Rattle.arc_node.specs.declared.handle_end.HandleEnd.{HandleEnd}
use Rattle.arc_node.specs.declared.handle_end.HandleEnd.TheVariants as ends
use Rattle.arc_node.specs.declared.node.Node.{Node}
use Rattle.arc_node.specs.Node.{disk_in, doubt_of, is_up, kept, limit_of, number_of, slots_in, KeepsList, MayRead}

-- A message within the limits: its command, where it has one, is valid, and what is learned has a slot of the list.
abbrev pub IsReceivable : ℕ → Message → Type 0
IsReceivable slots (Status slot) = ⊤
IsReceivable slots (Prepare slot ballot) = ⊤
IsReceivable slots (Accept slot ballot command) = IsValidCommand command
IsReceivable slots (Learn slot command) = IsValidCommand command × (slot < slots)

-- Each command that an answer tells is within its limits: the one that is closed at a slot, or that of a vote.
abbrev pub TellsValid : Answer → Type 0
TellsValid (At length ballot known) = IfSome known IsValidCommand
TellsValid (Known slot command) = IsValidCommand command
TellsValid (Behind length) = ⊤
TellsValid (Refused ballot) = ⊤
TellsValid (Promise slot ballot vote) = IfSome vote (λ told. IsValidCommand told.1)
TellsValid (Accepted slot ballot) = ⊤
TellsValid (Learned length) = ⊤

-- The node answers by the table, and keeps what the table appends: that is on its disk.
pub record HasAnswered {D : Type 0} (old new : Node D) (message : Message) (reply : Answer) : Type 0 where
  pub was_up : is_up old ≡ true
  pub still_up : is_up new ≡ true
  pub turn : Turn
  pub by_the_table : IsTurn (kept old) message turn
  pub answer : reply ≡ turn.reply
  pub entries : kept new ≡ appended (kept old) turn.append
  pub no_doubt : doubt_of new ≡ None

-- An up node went down over the entry that the table appends: the disk failed, and the entry is in doubt, or the journal
-- is full.
pub record HasFallen {D : Type 0} (faults : D → ℕ) (old new : Node D) (message : Message) : Type 0 where
  pub turn : Turn
  pub by_the_table : IsTurn (kept old) message turn
  pub entry : Record
  pub needed : turn.append ≡ Some entry
  pub entries : kept new ≡ kept old
  pub cause : (HasRisen (faults (disk_in old)) (faults (disk_in new)) × (doubt_of new ≡ Some entry))
      ⊎ ((length (kept old) ≡ limit_of old) × (doubt_of new ≡ None) × (disk_in new ≡ disk_in old))

-- What became of the node by the end of the handling. One that isn't up stays as it is.
abbrev pub EndsHandling : {D : Type 0} (faults : D → ℕ) → Node D → Node D → Message → HandleEnd → Type 0
EndsHandling faults old new message (ends.Answered reply) = HasAnswered old new message reply
EndsHandling faults old new message ends.Down =
    (is_up new ≡ false)
    × (((is_up old ≡ false) × (new ≡ old)) ⊎ ((is_up old ≡ true) × HasFallen faults old new message))
EndsHandling faults old new message ends.Memory = (is_up old ≡ true) × (is_up new ≡ true) × KeepsList old new

-- A turn for which a node asks for memory: it copies a command, or appends an entry for which the journal has room.
abbrev pub NeedsMemory : {D : Type 0} → Node D → Turn → Type 0
NeedsMemory node turn =
    CopiesCommand turn ⊎ ((entry : Record) × (turn.append ≡ Some entry) × (length (kept node) < limit_of node))

-- Where the handling ended in want of memory, the table's turn needs some.
abbrev pub EndsForMemory : {D : Type 0} → Node D → Message → HandleEnd → Type 0
EndsForMemory node message result =
    result ≡ ends.Memory → (turn : Turn) → IsTurn (kept node) message turn → NeedsMemory node turn

-- An image of a journal with the kept entries, and the one that the table appends on this message behind them.
abbrev pub HasTurn : {D : Type 0} → Node D → Message → List ℕ → Type 0
HasTurn node message image =
    (turn : Turn) × (entry : Record) × IsTurn (kept node) message turn × (turn.append ≡ Some entry)
    × IsJournalOf (number_of node) (slots_in node) (kept node ++ entry ∷ []) image

-- A crash at any moment of a handling leaves a journal that was possible before it, or one with the table's entry.
abbrev pub LeavesHandled : {D : Type 0} (moment : D → ℕ) (left_since : D → ℕ → List ℕ → Type 0)
    → Node D → Node D → Message → Type 0
LeavesHandled moment left_since old new message =
    LeavesOnly moment left_since (disk_in old) (disk_in new) (λ image. MayRead old image ⊎ HasTurn old message image)
