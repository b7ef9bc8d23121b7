-- A fact of each item of a list.
use Rattle.std.specs.Prelude.{ℕ, ◌≡◌, List, slice_get, Some}

-- P holds of each item
abbrev pub Each : {A : Type 0} → (A → Type 0) → List A → Type 0
Each {A} P items = (k : ℕ) (x : A) → slice_get items k ≡ Some x → P x
