-- Lists in which no two items agree in something: what the first item tells.
use Rattle.std.proofs.Common.{◌≡◌, ◌≢◌, ◌↔◌, zero, suc, ◌-◌, ◌≤◌, List, [], ◌∷◌, length, get_or, take, drop, AllPairs, Any, sym, ap, subst, ◌∙◌, arith}
use Rattle.std.proofs.lemmas.List.Kept.{AllPairs-cons}
use Rattle.std.proofs.lemmas.List.{take_all, get_or_default}

-- what stands behind the first
behind_first : {X : Type 0} (x : X) (xs : List X) → take (length (x ∷ xs) - 1) (drop 1 (x ∷ xs)) ≡ xs
behind_first x xs = let e : length (x ∷ xs) - 1 ≡ length xs = omega arith in rw e (take_all (length xs) xs (omega arith))

module _ {X K : Type 0} (f : X → K) where
  -- no two agree
  abbrev pub AreApart : List X → Type 0
  AreApart xs = AllPairs (λ a b. f a ≢ f b) xs

  -- where none of the others agrees with the first, they decide
  decides : (x : X) (xs : List X) → (Any (λ y. f y ≡ f x) xs → ⊥) → AreApart xs ↔ AreApart (x ∷ xs)
  decides x xs none = (
    λ apart. AllPairs-cons (λ a b. f a ≢ f b) x xs (λ k d lt same. none (k, get_or xs k d, lt, get_or_default xs k (get_or xs k d) d lt, sym same)) apart,
    λ apart i j d lt within. apart (suc i) (suc j) d (omega arith) (omega arith),
  )

  pub others_decide : (xs all : List X) (key : K) (d : X) → 1 ≤ length xs → f (get_or xs 0 d) ≡ key →
      (Any (λ y. f y ≡ key) (take (length xs - 1) (drop 1 xs)) → ⊥) → (AreApart xs ↔ AreApart all) →
      AreApart (take (length xs - 1) (drop 1 xs)) ↔ AreApart all
  others_decide [] all key d some is none so_far = absurd (omega arith)
  others_decide (x ∷ xs) all key d some is none so_far =
      let same = behind_first x xs in
      let step = decides x xs (λ one. none (rw (same, ← is) one)) in
      rw same (λ apart. so_far.0 (step.0 apart), λ apart. step.1 (so_far.1 apart))

  -- where one agrees with the first, two do
  pub two_agree : (xs all : List X) (key : K) (d : X) → 1 ≤ length xs → f (get_or xs 0 d) ≡ key →
      Any (λ y. f y ≡ key) (take (length xs - 1) (drop 1 xs)) → (AreApart xs ↔ AreApart all) → AreApart all → ⊥
  two_agree [] all key d some is one so_far apart = absurd (omega arith)
  two_agree (x ∷ xs) all key d some is one so_far apart =
      let found : Any (λ y. f y ≡ key) xs = subst (λ ys. Any (λ y. f y ≡ key) ys) (behind_first x xs) one in
      so_far.1 apart zero (suc found.0) found.1 (omega arith) (omega (arith, found.2)) (is ∙ sym found.4 ∙ ap f (sym found.3))
