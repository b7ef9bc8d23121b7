-- Entries that stand in a part of a list.
use Rattle.std.proofs.Common.{◌≡◌, ℕ, ◌+◌, ◌-◌, ◌<◌, ◌≤◌, ◌⊎◌, inl, inr, List, [], ◌∷◌, ◌++◌, length, take, drop, get_or, subst, sym, arith, refl, zero, suc, add-one, ◌∙◌, length-drop}
use Rattle.std.specs.List.{Contains}
use Rattle.std.proofs.lemmas.List.{take-append-drop, drop-take, get_or-drop}
use Rattle.std.proofs.lemmas.List.Elements.{Contains-append_left, Contains-append_right, Contains-append_cases, Contains-push, Contains-push_cases}
use Rattle.std.proofs.Math.Seq.{take-suc}

-- what stands in the front of a list stands in the list
pub contains_take : {X : Type 0} (n : ℕ) (xs : List X) (x : X) → Contains (take n xs) x → Contains xs x
contains_take {X} n xs x there =
    let P : List X → Type 0 = λ ys. Contains ys x in
    subst P (take-append-drop n xs) (Contains-append_left (take n xs) (drop n xs) x there)

-- what stands in the rest of a list stands in the list
pub contains_drop : {X : Type 0} (n : ℕ) (xs : List X) (x : X) → Contains (drop n xs) x → Contains xs x
contains_drop {X} n xs x there =
    let P : List X → Type 0 = λ ys. Contains ys x in
    subst P (take-append-drop n xs) (Contains-append_right (take n xs) (drop n xs) x there)

-- what stands in a part of a list stands in the list
pub contains_part : {X : Type 0} (n start : ℕ) (xs : List X) (x : X) → Contains (take n (drop start xs)) x → Contains xs x
contains_part n start xs x there = contains_drop start xs x (contains_take n (drop start xs) x there)

-- what stands in a list stands before a place or from there on
pub contains_cases : {X : Type 0} (n : ℕ) (xs : List X) (x : X) → Contains xs x → Contains (take n xs) x ⊎ Contains (drop n xs) x
contains_cases {X} n xs x there =
    let P : List X → Type 0 = λ ys. Contains ys x in
    Contains-append_cases (take n xs) (drop n xs) x (subst P (sym (take-append-drop n xs)) there)

-- what stands in a list is its first element or stands behind that
pub contains_cons : {X : Type 0} (x : X) (xs : List X) (y : X) → Contains (x ∷ xs) y → (x ≡ y) ⊎ Contains xs y
contains_cons x xs y (zero, lt, e) = inl e
contains_cons x xs y (suc k, lt, e) = let small : k < length xs = omega (arith, lt) in inr (k, small, e)

pub contains_head : {X : Type 0} (x : X) (xs : List X) → Contains (x ∷ xs) x
contains_head x xs = let small : 0 < length (x ∷ xs) = omega arith in (0, small, refl)

pub contains_tail : {X : Type 0} (x : X) (xs : List X) (y : X) → Contains xs y → Contains (x ∷ xs) y
contains_tail x xs y (k, lt, e) = let small : suc k < length (x ∷ xs) = omega (arith, lt) in (suc k, small, e)

-- what stands among one entry more stood among them before, or is that entry
pub contains_more : {X : Type 0} (xs : List X) (i : ℕ) (x y : X) → i < length xs → x ≡ get_or xs i x → Contains (take (i + 1) xs) y →
    Contains (take i xs) y ⊎ (x ≡ y)
contains_more {X} xs i x y lt at there =
    let P : List X → Type 0 = λ ys. Contains ys y in
    let e : take (i + 1) xs ≡ take i xs ++ x ∷ [] = rw (add-one, take-suc xs i x lt, ← at) refl in
    Contains-push_cases (take i xs) x y (subst P e there)

pub contains_still : {X : Type 0} (xs : List X) (i : ℕ) (x y : X) → i < length xs → x ≡ get_or xs i x → Contains (take i xs) y →
    Contains (take (i + 1) xs) y
contains_still {X} xs i x y lt at there =
    let P : List X → Type 0 = λ ys. Contains ys y in
    let e : take (i + 1) xs ≡ take i xs ++ x ∷ [] = rw (add-one, take-suc xs i x lt, ← at) refl in
    subst P (sym e) (Contains-append_left (take i xs) (x ∷ []) y there)

pub contains_now : {X : Type 0} (xs : List X) (i : ℕ) (x : X) → i < length xs → x ≡ get_or xs i x → Contains (take (i + 1) xs) x
contains_now {X} xs i x lt at =
    let P : List X → Type 0 = λ ys. Contains ys x in
    let e : take (i + 1) xs ≡ take i xs ++ x ∷ [] = rw (add-one, take-suc xs i x lt, ← at) refl in
    subst P (sym e) (Contains-push (take i xs) x)

-- a part is the rest of a front
pub part_is : {X : Type 0} (start place : ℕ) (xs : List X) → start ≤ place →
    take (place - start) (drop start xs) ≡ drop start (take place xs)
part_is start place xs le =
    let e : start + (place - start) ≡ place = omega arith in
    let h : drop start (take (start + (place - start)) xs) ≡ take (place - start) (drop start xs) =
    drop-take start (place - start) xs in
    sym (rw e at h)

-- what stands at a place stands in the rest from an earlier place on
pub contains_from : {X : Type 0} (start k : ℕ) (xs : List X) (y : X) → start ≤ k → k < length xs → get_or xs k y ≡ y →
    Contains (drop start xs) y
contains_from start k xs y le lt at =
    let small : k - start < length (drop start xs) = rw length-drop (omega arith) in
    let e : start + (k - start) ≡ k = omega arith in
    let there : get_or (drop start xs) (k - start) y ≡ y = get_or-drop start xs (k - start) y ∙ (rw e at) in
    (k - start, small, there)
