-- What a reader does, and what it knows afterwards.
use Rattle.std.specs.Prelude.{◌≡◌, ◌≤◌, ◌⊎◌, ℕ, List, [], length, All, Option, Some, None, Result, Ok, Err}
use mathlib.Core.List.{IsPrefix}
use Rattle.arc_bytes.specs.declared.outcome.Memory as bytes
use Rattle.arc_data.specs.declared.command.Command.{Command}
use Rattle.arc_data.specs.declared.reply.Reply.{Reply}
use Rattle.arc_state.specs.declared.read.ReadOp.{ReadOp}
use Rattle.arc_token.specs.declared.token.Token.{Token}
use Rattle.arc_snapshot.specs.declared.known.Known.{Known}
use Rattle.arc_snapshot.specs.declared.known.Recorded.{Recorded}
use Rattle.arc_snapshot.specs.declared.read_end.ReadEnd.{ReadEnd}
use Rattle.arc_snapshot.specs.declared.read_end.ReadEnd.TheVariants.{Behind, Closed, Memory}
use Rattle.arc_snapshot.specs.After.{Tells}
use Rattle.arc_snapshot.specs.Rule.{after_read, after_telling}

-- The list that a reader has then seen begins with all that it had seen and with all that it was told of, and is no
-- shorter than any list that it entered.
pub record GoesOn (old new : Known) : Type 0 where
  pub seen : IsPrefix old.seen new.seen
  pub told : IsPrefix old.told new.seen
  pub not_shorter : All (λ n. n ≤ length new.seen) old.lengths

-- A read adds one length to those of the lists that were entered: that of the list which is then seen.
abbrev pub Enters : Known → Known → Type 0
Enters old new = GoesOn old new × (new ≡ after_read old new.seen)

-- Every read enters, and tells of the list that it entered. Only where the write side is gone nothing is entered.
abbrev pub Reads : Known → ℕ → ReadOp → Result (Reply × Token) ReadEnd → Known → Type 0
Reads old asked op (Ok told) new = Enters old new × Tells new.seen asked op (Ok told)
Reads old asked op (Err (Behind have for)) new = Enters old new × Tells new.seen asked op (Err (Behind have for))
Reads old asked op (Err Memory) new = Enters old new × Tells new.seen asked op (Err Memory)
Reads old asked op (Err Closed) new = new ≡ old

-- the reader was told of a list of so many commands, which begins what was recorded of these sides; or it found nothing
abbrev pub Finds : Known → Option (ℕ × Recorded) → Known → Type 0
Finds old (Some found) new =
    GoesOn old new × (new ≡ after_telling old new.seen) × (found.0 ≡ length new.seen) × IsPrefix new.seen found.1.list
    × ((old.sides ≡ []) ⊎ (old.sides ≡ found.1.sides))
Finds old None new = new ≡ old

-- the reader was told of this list, which begins with all that it had seen and was told of
abbrev pub IsTold : Known → List Command → Known → Type 0
IsTold old list new = GoesOn old new × (new ≡ after_telling old list)

-- The reader was told of this list. For want of memory it was told of another list, or of nothing.
abbrev pub Hears : Known → List Command → Result (Unit {0}) bytes.Memory → Known → Type 0
Hears old list (Ok done) new = IsTold old list new
Hears old list (Err none) new = IsTold old new.seen new ⊎ (new ≡ old)
