-- A history of ticks.
use Rattle.std.specs.Prelude.{ℕ, zero, suc, List, [], ◌∷◌, ◌++◌}

-- so many entries with nothing in them
abbrev pub ticks : ℕ → List (List ℕ)
ticks zero = []
ticks (suc n) = ticks n ++ [] ∷ []
