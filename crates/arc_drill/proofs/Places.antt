-- Places of a list that grows.
use Rattle.std.proofs.Common.{◌≡◌, ℕ, zero, suc, ◌<◌, ◌++◌, refl, ap, ◌∙◌, subst, List, [], ◌∷◌, length, take, Some, arith, ◌⊎◌, inl, inr, ⊎_elim}
use Rattle.std.specs.Prelude.{slice_get}
use Rattle.std.proofs.lemmas.Option.{none-some, same_Some, slice_get_within}
use Rattle.arc_drill.specs.Each.{Each}

-- an item of the front
pub get_front : {A : Type 0} → (xs ys : List A) (k : ℕ) → k < length xs → slice_get (xs ++ ys) k ≡ slice_get xs k
get_front [] ys k below = absurd (omega arith)
get_front (x ∷ xs) ys zero below = refl
get_front (x ∷ xs) ys (suc k) below = get_front xs ys k (omega arith)

-- the last item
pub get_last : {A : Type 0} → (xs : List A) (x : A) → slice_get (xs ++ x ∷ []) (length xs) ≡ Some x
get_last [] x = refl
get_last (y ∷ xs) x = get_last xs x

-- an item stays where it is
pub get_grown : {A : Type 0} → (xs ys : List A) (k : ℕ) (x : A) → slice_get xs k ≡ Some x → slice_get (xs ++ ys) k ≡ Some x
get_grown xs ys k x at = get_front xs ys k (slice_get_within xs k x at) ∙ at

-- an item of a list with one more is one of before, or the last
pub get_more : {A : Type 0} → (xs : List A) (x y : A) (k : ℕ) → slice_get (xs ++ x ∷ []) k ≡ Some y → (slice_get xs k ≡ Some y) ⊎ ((k ≡ length xs) × (x ≡ y))
get_more [] x y zero at = inr (refl, same_Some _ _ at)
get_more [] x y (suc k) at = absurd (none-some y at)
get_more (z ∷ xs) x y zero at = inl at
get_more (z ∷ xs) x y (suc k) at =
    ⊎_elim (λ old. inl old) (λ new. inr (ap suc new.0, new.1)) (get_more xs x y k at)

-- P holds of each item of a list with one more
pub each_more : {A : Type 0} → (P : A → Type 0) (xs : List A) (x : A) → Each P xs → P x → Each P (xs ++ x ∷ [])
each_more P xs x each last k y at =
    ⊎_elim (λ old. each k y old) (λ new. subst P new.1 last) (get_more xs x y k at)

-- and what follows from P
pub each_weaker : {A : Type 0} → (P Q : A → Type 0) (xs : List A) → ((x : A) → P x → Q x) → Each P xs → Each Q xs
each_weaker P Q xs weaker each k x at = weaker x (each k x at)

-- the front up to and with an item
pub take_next : {A : Type 0} → (xs : List A) (k : ℕ) (x : A) → slice_get xs k ≡ Some x → take (suc k) xs ≡ take k xs ++ x ∷ []
take_next [] k x at = absurd (none-some x at)
take_next (y ∷ xs) zero x at = ap (λ z. z ∷ []) (same_Some _ _ at)
take_next (y ∷ xs) (suc k) x at = ap (λ zs. y ∷ zs) (take_next xs k x at)

-- what stands at a place of a list
pub item_at : {A : Type 0} → (xs : List A) (k : ℕ) → k < length xs → (x : A) × (slice_get xs k ≡ Some x)
item_at [] k below = absurd (omega arith)
item_at (x ∷ xs) zero below = (x, refl)
item_at (x ∷ xs) (suc k) below = item_at xs k (omega arith)
