-- Histories: entries, the oldest first, each a list of numbers.
use Rattle.std.specs.Prelude.{◌≡◌, ℕ, List, [], ◌∷◌}
use mathlib.Core.List.{IsPrefix}
use Rattle.arc_turn.specs.declared.view.Told.{Told}

abbrev pub History : Type 0
History = List (List ℕ)

-- each of these histories begins the history, and each of these names is the name
abbrev pub AllAgree : List Told → History → List ℕ → Type 0
AllAgree [] log name = Unit {0}
AllAgree (t ∷ ts) log name = (IsPrefix t.seen log × (t.name ≡ name)) × AllAgree ts log name

-- of two beginnings of one history the longer
abbrev pub longer : History → History → History
longer [] h = h
longer (e ∷ g) [] = e ∷ g
longer (e ∷ g) (f ∷ h) = e ∷ longer g h
