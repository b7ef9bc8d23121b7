-- What an acceptor answers.
use Rattle.std.specs.Prelude.{◌≡◌, ◌+◌, ◌<◌, ◌^◌, ⊤, IsSome, List, Option, Some, None, MatchResult, Result}
use Rattle.arc_bytes.specs.declared.outcome.Memory.{Memory}
use Rattle.arc_data.specs.declared.message.Answer.{Answer}
use Rattle.arc_data.specs.declared.message.Answer.TheVariants.{At, Known, Behind, Refused, Promise, Accepted, Learned}
use Rattle.arc_data.specs.declared.message.Message.{Message}
use Rattle.arc_data.specs.declared.message.Message.TheVariants.{Status, Prepare, Accept, Learn}
use Rattle.arc_voting.specs.Turn.{Turn, IsTurn}
use Rattle.arc_data.specs.Entries.{closed_len, promise}
use Rattle.arc_data.specs.declared.record.Record.{Record}
use Rattle.arc_data.specs.declared.record.Record.TheVariants.{Opened, Promised, Voted, Closed}
use Rattle.arc_acceptor.specs.declared.progress.Progress.{Progress}
use Rattle.arc_acceptor.specs.declared.turned.Turned.{Turned}

-- What is appended and answered.
abbrev pub turn_in : Turned → Turn
turn_in turned = record { append = turned.append; reply = turned.reply }

-- What is to be learned has a slot that isn't the last number of 32 bits, so that a length is behind it.
abbrev pub IsLearnable : Message → Type 0
IsLearnable (Status slot) = ⊤
IsLearnable (Prepare slot ballot) = ⊤
IsLearnable (Accept slot ballot command) = ⊤
IsLearnable (Learn slot command) = slot + 1 < 2 ^ 32

-- How far these entries have come: the closed length, and the promise.
abbrev pub progress_of : List Record → Progress
progress_of rs = record { length = closed_len rs; promise = promise rs }

-- The answer tells a command: the one that is closed at the slot, or that of a vote.
abbrev pub TellsCommand : Answer → Type 0
TellsCommand (At length ballot known) = IsSome known
TellsCommand (Known slot c) = ⊤
TellsCommand (Behind length) = ⊥
TellsCommand (Refused ballot) = ⊥
TellsCommand (Promise slot ballot vote) = IsSome vote
TellsCommand (Accepted slot ballot) = ⊥
TellsCommand (Learned length) = ⊥

-- With this entry appended, if any, and this answer a command is copied: a vote or a closed slot is appended, or else the
-- answer tells a command.
abbrev pub IsCopied : Option Record → Answer → Type 0
IsCopied None reply = TellsCommand reply
IsCopied (Some (Opened inc)) reply = TellsCommand reply
IsCopied (Some (Promised from ballot)) reply = TellsCommand reply
IsCopied (Some (Voted slot ballot c)) reply = ⊤
IsCopied (Some (Closed slot c)) reply = ⊤

-- The turn copies a command. No other turn asks for memory.
abbrev pub CopiesCommand : Turn → Type 0
CopiesCommand turn = IsCopied turn.append turn.reply

-- What comes of a turn: the turn itself, or want of memory where it copies a command.
abbrev pub IsOutcome : Turn → Result Turned Memory → Type 0
IsOutcome turn result = MatchResult result (λ turned. turn_in turned ≡ turn) (λ memory. CopiesCommand turn)

-- The table has one turn for each message, whatever the entries are.
abbrev pub EachMessageHasOneTurn : Type 0
EachMessageHasOneTurn = (rs : List Record) (m : Message) →
    (turn : Turn) × IsTurn rs m turn × ((other : Turn) → IsTurn rs m other → other ≡ turn)
