-- The first control that a rule can't name.
use Rattle.std.proofs.Common.{◌≡◌, ◌++◌, List, Bool, find}
use Rattle.std.specs.Option.{option_or}
use Rattle.std.proofs.lemmas.List.Folds.{find-append}

-- of two lists one after another
pub outside_of : {X : Type 0} (p : X → Bool) (xs ys : List X) → find p (xs ++ ys) ≡ option_or (find p xs) (find p ys)
outside_of = find-append
