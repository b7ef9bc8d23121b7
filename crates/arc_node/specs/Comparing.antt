-- Two lists of entries, compared.
use Rattle.std.specs.Prelude.{ℕ, ◌≡◌, ◌⊎◌, ◌≤◌, Option, Some, List, [], ◌∷◌, ◌++◌, length, take}
use Rattle.std.specs.List.{slice_get}
use Rattle.arc_data.specs.declared.record.Record.{Record}

-- The list is the kept one, or that with the entry in doubt.
abbrev pub IsKeptOrWith : List Record → Option Record → List Record → Type 0
IsKeptOrWith kept doubt list = (list ≡ kept) ⊎ ((entry : Record) × (doubt ≡ Some entry) × (list ≡ kept ++ entry ∷ []))

-- So many entries are the same in two lists, and then these differ, or both end.
pub record AgreesFor (xs ys : List Record) (n : ℕ) : Type 0 where
  pub left : n ≤ length xs
  pub right : n ≤ length ys
  pub front : take n xs ≡ take n ys
  pub behind : slice_get xs n ≡ slice_get ys n → (n ≡ length xs) × (n ≡ length ys)
