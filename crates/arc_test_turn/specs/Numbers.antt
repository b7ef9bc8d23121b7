-- The history of numbers in a row.
use Rattle.std.specs.Prelude.{ℕ, List, [], ◌∷◌, map}
use Rattle.arc_turn.specs.History.{History}

-- each number is an entry
abbrev pub entries_of : List ℕ → History
entries_of numbers = map (λ n. n ∷ []) numbers
