-- Whether something is found is whether some item passes.
use Rattle.std.proofs.Common.{◌≡◌, Bool, true, false, cond, List, [], ◌∷◌, find, Some, is_some, refl, ◌||◌}
use Rattle.std.specs.List.{list_any}

pub is_some-find : {X : Type 0} (p : X → Bool) (xs : List X) → is_some (find p xs) ≡ list_any p xs
is_some-find p [] = refl
is_some-find p (x ∷ xs) = by_first (p x) (is_some-find p xs)
  where
    by_first : (b : Bool) → is_some (find p xs) ≡ list_any p xs → is_some (cond b (Some x) (find p xs)) ≡ (b || list_any p xs)
    by_first true rest = refl
    by_first false rest = rest

pub ruleset searches = is_some-find
