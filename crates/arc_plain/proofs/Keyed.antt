-- What a change of the item with a key leaves, where keys ascend.
use Rattle.std.proofs.Common.{◌≡◌, ◌≢◌, ℕ, ◌<◌, ◌==◌, false, cond, List, length, get_or, set, map, position, Some, AllPairs, sym, ap, ◌∙◌, arith, eqb, inl, inr}
use Rattle.std.proofs.lemmas.Bool.{cases_eq, cases_lt, eqb-true}
use Rattle.std.proofs.lemmas.Bool.Decides.{nat_tests}
use Rattle.std.proofs.lemmas.List.{same_lists, get_or-map, get_or_default, length-map, get_or-set_other, length-set}
use Rattle.std.proofs.lemmas.List.Quantifiers.{position-Some}
use Rattle.std.proofs.lemmas.Grind.{get_or-set_at}

-- the item with this key, changed
abbrev pub changed_by : {X : Type 0} → (X → ℕ) → (X → X) → ℕ → X → X
changed_by key change k x = cond (key x == k) (change x) x

-- keys that ascend
abbrev pub Ascend : {X : Type 0} → (X → ℕ) → List X → Type 0
Ascend key xs = AllPairs (λ earlier later. key earlier < key later) xs

-- no other place has the key
other_key : {X : Type 0} (key : X → ℕ) (xs : List X) (k i j : ℕ) (d : X) → Ascend key xs → i < length xs → j < length xs →
    j ≢ i → key (get_or xs i d) ≡ k → key (get_or xs j d) ≢ k
other_key key xs k i j d ascending here there apart own own' =
    elim (cases_lt j i) [
      | inl before ↦ omega (arith, ascending j i d before here)
      | inr after ↦ omega (arith, ascending i j d (omega arith) there)
    ]

-- what the change leaves at a place
changed_at : {X : Type 0} (key : X → ℕ) (change : X → X) (xs : List X) (k i j : ℕ) (d x : X) →
    Ascend key xs → position (λ y. key y == k) xs ≡ Some i → j < length xs →
    get_or (map (changed_by key change k) xs) j x ≡ get_or (set xs i (change (get_or xs i d))) j x
changed_at key change xs k i j d x ascending there within =
    let at = get_or-map (changed_by key change k) xs j x x within in
    let first = position-Some (λ y. key y == k) xs i d there in
    let own = eqb-true (key (get_or xs i d)) k first.1 in
    elim (cases_eq j i) [
      | inl here ↦
          let item : get_or xs j x ≡ get_or xs i d = ap (λ n. get_or xs n x) here ∙ get_or_default xs i x d first.0 in
          let test = first.1 in
          at ∙ ap (changed_by key change k) item ∙ rw test (sym (get_or-set_at xs i j (change (get_or xs i d)) x here first.0))
      | inr elsewhere ↦
          let same = ap key (get_or_default xs i x d first.0) ∙ own in
          let other = other_key key xs k i j x ascending first.0 within elsewhere same in
          let test : eqb (key (get_or xs j x)) k ≡ false = grind (arith, nat_tests) in
          at ∙ rw test (sym (get_or-set_other xs i j (change (get_or xs i d)) x elsewhere))
    ]

-- a change of the item with a key is a change of its place
pub changed-set : {X : Type 0} (key : X → ℕ) (change : X → X) (xs : List X) (k i : ℕ) (d : X) →
    Ascend key xs → position (λ y. key y == k) xs ≡ Some i →
    map (changed_by key change k) xs ≡ set xs i (change (get_or xs i d))
changed-set key change xs k i d ascending there =
    let y = change (get_or xs i d) in
    same_lists (map (changed_by key change k) xs) (set xs i y)
    (length-map xs (changed_by key change k) ∙ sym (length-set xs i y))
    (λ j x below. changed_at key change xs k i j d x ascending there (rw (length-map xs (changed_by key change k)) at below))
