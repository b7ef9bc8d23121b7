-- What is found behind a place of a list.
use Rattle.std.proofs.Common.{◌≡◌, ℕ, ◌+◌, ◌<◌, Bool, true, false, List, length, get_or, drop, find, Some, refl, ap, ◌∙◌}
use Rattle.std.proofs.lemmas.List.{drop_more}

-- what doesn't pass is passed over
pub find_past : {X : Type 0} (p : X → Bool) (xs : List X) (i : ℕ) (d : X) → i < length xs → p (get_or xs i d) ≡ false →
    find p (drop i xs) ≡ find p (drop (i + 1) xs)
find_past p xs i d within fails = ap (find p) (drop_more xs i d within) ∙ rw fails refl

-- what passes is found
pub find_here : {X : Type 0} (p : X → Bool) (xs : List X) (i : ℕ) (d : X) → i < length xs → p (get_or xs i d) ≡ true →
    find p (drop i xs) ≡ Some (get_or xs i d)
find_here p xs i d within passes = ap (find p) (drop_more xs i d within) ∙ rw passes refl
