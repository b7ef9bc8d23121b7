-- What is found in a list, by the place where it stands.
use Rattle.std.proofs.Common.{◌≡◌, ℕ, Bool, List, length, get_or, find, position, Some, None, ltb, arith}
use Rattle.std.specs.List.{position_or_len}
use Rattle.std.proofs.lemmas.List.Folds.{find_at}
use Rattle.std.proofs.lemmas.List.Quantifiers.{position-Some}
use Rattle.std.proofs.lemmas.Option.{cond_some, slice_get-get_or, slice_get_past}
use Rattle.std.proofs.lemmas.Grind.{common_steps}

-- what has no place isn't found
pub find_nowhere : {X : Type 0} (p : X → Bool) (xs : List X) → position p xs ≡ None → find p xs ≡ None
find_nowhere p xs nowhere = grind (arith, find_at p xs, slice_get_past, common_steps)

-- what stands at the first place is found
pub find_there : {X : Type 0} (p : X → Bool) (xs : List X) (i : ℕ) (x : X) →
    position p xs ≡ Some i → x ≡ get_or xs i x → find p xs ≡ Some x
find_there p xs i x there at =
    let first = cond_some (ltb (position_or_len p xs) (length xs)) (position_or_len p xs) i there in
    grind (arith, first, find_at p xs, position-Some p xs i x there, slice_get-get_or xs i x)
