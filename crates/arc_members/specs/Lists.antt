-- Arrays: the count is tested before the items, and items that are there twice after all of them.
use Rattle.std.specs.Prelude.{ℕ, ◌&&◌, Bool, true, not, nat_lt, List, [], ◌∷◌, length, Result, Ok, Err, if◌then◌else◌}
use Rattle.std.specs.List.{list_any}
use Rattle.serde_json.specs.Data.{Data}
use Rattle.arc_members.specs.declared.code.Code.{Code}
use Rattle.arc_members.specs.declared.code.Code.TheVariants.{DoubledEntry, EmptyEntries, TooManyEntries}
use Rattle.arc_members.specs.Reading.{Reading, ◌>>=◌, items_in, kept}

-- so few and so many items
abbrev pub counted : ℕ → ℕ → List Data → Result (List Data) Code
counted least most items =
    if nat_lt (length items) least then Err EmptyEntries
    else if nat_lt most (length items) then Err TooManyEntries
    else Ok items

-- each item, in order
unfoldable pub each : {A : Type 0} → Reading A → List Data → Result (List A) Code
each read [] = Ok []
each read (d ∷ items) = read d >>= λ x. each read items >>= λ others. Ok (x ∷ others)

-- a list of so few and so many items
unfoldable pub list_in : {A : Type 0} → ℕ → ℕ → Reading A → Reading (List A)
list_in least most read d = items_in d >>= counted least most >>= each read

-- whether no two are the same
abbrev pub all_differ : {A : Type 0} → (A → A → Bool) → List A → Bool
all_differ same [] = true
all_differ same (x ∷ others) = not (list_any (same x) others) && all_differ same others

-- a list in which nothing is there twice
unfoldable pub set_in : {A : Type 0} → (A → A → Bool) → ℕ → ℕ → Reading A → Reading (List A)
set_in same least most read d = list_in least most read d >>= kept (all_differ same) DoubledEntry
