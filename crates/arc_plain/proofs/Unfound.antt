-- What isn't found in a list.
use Rattle.std.proofs.Common.{◌≡◌, Bool, true, false, cond, List, [], ◌∷◌, find, Option, Some, None, All, refl, arith, zero, suc}

-- nothing is found where the first fails and nothing is found behind it
first_fails : {X : Type 0} (passes : Bool) (x : X) (rest : Option X) →
    cond passes (Some x) rest ≡ None → (passes ≡ false) × (rest ≡ None)
first_fails true x rest none = cc
first_fails false x rest none = (refl, none)

-- what isn't found passes nowhere
pub unfound : {X : Type 0} (p : X → Bool) (xs : List X) → find p xs ≡ None → All (λ x. p x ≡ false) xs
unfound p [] none k d within = absurd (omega arith)
unfound p (x ∷ xs) none zero d within = (first_fails (p x) x (find p xs) none).0
unfound p (x ∷ xs) none (suc k) d within =
    unfound p xs (first_fails (p x) x (find p xs) none).1 k d (omega arith)
