-- What is counted of five nodes.
use Rattle.std.specs.Prelude.{ℕ, ◌≡◌, Option, Some}
use Rattle.arc_voting.specs.Journals.{ByThree}

-- It holds of at least three nodes, the endpoint among them.
abbrev pub ByThreeWith : (ℕ → Type 0) → ℕ → Type 0
ByThreeWith P endpoint = ByThree P × P endpoint

-- There is a value.
abbrev pub Has : {A : Type 0} → Option A → Type 0
Has {A} o = (value : A) × (o ≡ Some value)
