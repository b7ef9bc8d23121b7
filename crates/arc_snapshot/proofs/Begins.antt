-- Beginnings of one list.
use Rattle.std.proofs.Common.{◌≡◌, ◌≤◌, List, [], ◌∷◌, ◌++◌, length, refl, sym, ap, ◌∙◌, append_assoc, length-append, arith}
use mathlib.Core.List.{IsPrefix}

module _ {A : Type 0} where
  -- a list begins itself
  pub begins_self : (xs : List A) → IsPrefix xs xs
  begins_self [] = ([], refl)
  begins_self (x ∷ xs) = let r = begins_self xs in (r.0, ap (λ ys. x ∷ ys) r.1)

  -- what begins a beginning begins the whole
  pub begins_trans : (xs ys zs : List A) → IsPrefix xs ys → IsPrefix ys zs → IsPrefix xs zs
  begins_trans xs ys zs p q = (p.0 ++ q.0, sym (append_assoc xs p.0 q.0) ∙ (ap (λ w. w ++ q.0) p.1 ∙ q.1))

  -- a beginning is no longer than the whole
  pub begins_length : (xs ys : List A) → IsPrefix xs ys → length xs ≤ length ys
  begins_length xs ys p = let l : length (xs ++ p.0) ≡ length ys = ap length p.1 in omega (arith, length-append xs p.0, l)

  -- of two beginnings of one list the one that is no longer begins the other
  pub begins_shorter : (xs ys zs : List A) → IsPrefix xs zs → IsPrefix ys zs → length xs ≤ length ys → IsPrefix xs ys
  begins_shorter [] ys zs p q low = (ys, refl)
  begins_shorter (x ∷ xs) [] zs p q low = absurd (omega arith)
  begins_shorter (x ∷ xs) (y ∷ ys) [] p q low = absurd (cc (p.1))
  begins_shorter (x ∷ xs) (y ∷ ys) (z ∷ zs) p q low =
      let heads : x ≡ y = cc (p.1, q.1) in
      let rest = begins_shorter xs ys zs (p.0, cc (p.1)) (q.0, cc (q.1)) (omega arith) in
      (rest.0, cc (heads, rest.1))

  -- a beginning as long as the whole is the whole
  pub begins_whole : (xs ys : List A) → IsPrefix xs ys → length ys ≤ length xs → xs ≡ ys
  begins_whole [] [] p low = refl
  begins_whole [] (y ∷ ys) p low = absurd (omega arith)
  begins_whole (x ∷ xs) [] p low = absurd (cc (p.1))
  begins_whole (x ∷ xs) (y ∷ ys) p low = let rest = begins_whole xs ys (p.0, cc (p.1)) (omega arith) in cc (p.1, rest)
