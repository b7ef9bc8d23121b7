-- The record of the commands that were taken over, and what its step tells.
use Rattle.std.specs.Prelude.{ℕ, ◌≡◌, ◌==◌, true, List, [], ◌∷◌, ◌++◌, length, MatchBool}
use mathlib.Core.List.{IsPrefix}
use Rattle.logbook.specs.Pages.{Cell, Step, View, Book, Named}
use Rattle.arc_data.specs.declared.command.Command.{Command}
use Rattle.arc_snapshot.specs.declared.known.Whole.{Whole}

-- the first word is the length of the list; the second isn't used
abbrev pub IsCounted : List Cell → List Command → Type 0
IsCounted cells list = cells ≡ (length list, true) ∷ (0, true) ∷ []

-- the word of a record
abbrev pub word_of : Book → Named
word_of book = record { tracked = true; key = 0; book = book }

-- which record it is, in numbers
abbrev pub numbers : Book → List ℕ
numbers book = book.number ∷ book.log_name ∷ book.cells_name ∷ []

-- the command was added to all that had been seen; or the list was longer
abbrev pub Adds : Step Command → View Command ℕ → ℕ → View Command ℕ → Type 0
Adds s v found w = MatchBool (found == s.old) (w.0 ≡ v.0 ++ s.ask ∷ []) (length w.0 ≡ found)

-- both lists begin one list
abbrev pub HaveOne : List Command → List Command → Type 0
HaveOne one other = (whole : List Command) × IsPrefix one whole × IsPrefix other whole

-- The command was recorded behind the others, where the record stays whole. In any case the list only grew.
pub record Records (old : Whole) (c : Command) (new : Whole) : Type 0 where
  pub sides : new.sides ≡ old.sides
  pub grown : IsPrefix old.list new.list
  pub added : new.whole ≡ true → (old.whole ≡ true) × (new.list ≡ old.list ++ c ∷ [])
