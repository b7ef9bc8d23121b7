-- Items of lists that fit in view of the earlier ones, as items that fit, of which no two are the same.
use Rattle.std.proofs.Common.{◌≡◌, ◌≢◌, ℕ, zero, suc, ◌<◌, ◌==◌, Bool, true, false, not, List, [], ◌∷◌, ◌++◌, length, get_or, All, AllPairs, refl, sym, ap, subst, ◌∙◌, append_assoc, arith}
use Rattle.std.specs.Bool.{Decides}
use Rattle.std.specs.List.{AllByRecursion, list_all}
use Rattle.std.proofs.Math.ListN.{get_or-append}
use Rattle.std.proofs.Math.Seq.{get_or-append_seam}
use Rattle.std.proofs.lemmas.List.{append-nil, length-append}
use Rattle.std.proofs.lemmas.List.Quantifiers.{all_pairs_push}
use Rattle.std.proofs.lemmas.List.Sums.{AllPass-from_list_all, list_all-from_AllPass}
use Rattle.arc_command.specs.Reader.{is_new}
use Rattle.arc_command.proofs.ListLaws.{AllAfter}

-- items that fit whatever the earlier ones are
abbrev pub Alone : {A : Type 0} → (A → Type 0) → List A → A → Type 0
Alone F earlier = F

-- items that fit, of which none is the same as an earlier one
abbrev pub AndNew : {A K : Type 0} → (A → K → Bool) → (A → K) → (A → Type 0) → List A → A → Type 0
AndNew same key F earlier x = F x × (is_new same earlier (key x) ≡ true)

-- where a test decides, so does the other one
pub not-Decides : (b : Bool) (P : Type 0) → Decides b P → Decides (not b) (P → ⊥)
not-Decides true P d = (λ e. absurd cc, λ no. absurd (no (d.0 refl)))
not-Decides false P d = (λ e is. absurd (let t = d.1 is in cc), λ no. refl)

module _ {A : Type 0} (F : A → Type 0) where
  pub alone : (earlier xs : List A) → AllByRecursion F xs → AllAfter (Alone F) earlier xs
  alone earlier [] each = tt
  alone earlier (x ∷ xs) each = (each.0, alone (earlier ++ x ∷ []) xs each.1)

  pub from_alone : (earlier xs : List A) → AllAfter (Alone F) earlier xs → AllByRecursion F xs
  from_alone earlier [] after = tt
  from_alone earlier (x ∷ xs) after = (after.0, from_alone (earlier ++ x ∷ []) xs after.1)

  pub All-from_each : (xs : List A) → AllByRecursion F xs → All F xs
  All-from_each [] each k d lt = absurd (omega arith)
  All-from_each (x ∷ xs) each zero d lt = each.0
  All-from_each (x ∷ xs) each (suc k) d lt = All-from_each xs each.1 k d (omega arith)

  pub each-from_All : (xs : List A) → All F xs → AllByRecursion F xs
  each-from_All [] all = tt
  each-from_All (x ∷ xs) all = (all 0 x (omega arith), each-from_All xs (λ k d lt. all (suc k) d (omega arith)))

  pub each_of_both : (G H : A → Type 0) → ((x : A) → F x → G x → H x) → (xs : List A) → AllByRecursion F xs → AllByRecursion G xs → AllByRecursion H xs
  each_of_both G H f [] a b = tt
  each_of_both G H f (x ∷ xs) a b = (f x a.0 b.0, each_of_both G H f xs a.1 b.1)

  pub each_to : (G : A → Type 0) → ((x : A) → F x → G x) → (xs : List A) → AllByRecursion F xs → AllByRecursion G xs
  each_to G f [] each = tt
  each_to G f (x ∷ xs) each = (f x each.0, each_to G f xs each.1)

module _ {A K : Type 0} (same : A → K → Bool) (key : A → K) (F : A → Type 0) (R : A → A → Type 0)
    (tells : (a b : A) → Decides (not (same a (key b))) (R a b)) where
  pub each-from_new : (earlier xs : List A) → AllAfter (AndNew same key F) earlier xs → AllByRecursion F xs
  each-from_new earlier [] after = tt
  each-from_new earlier (x ∷ xs) after = (after.0.0, each-from_new (earlier ++ x ∷ []) xs after.1)

  pub pairs-from_new : (earlier xs : List A) → AllPairs R earlier → AllAfter (AndNew same key F) earlier xs → AllPairs R (earlier ++ xs)
  pairs-from_new earlier [] pairs after = subst (λ ys. AllPairs R ys) (sym (append-nil earlier)) pairs
  pairs-from_new earlier (x ∷ xs) pairs after =
      let new = AllPass-from_list_all (λ y. not (same y (key x))) earlier after.0.1 in
      let more = all_pairs_push R earlier x pairs (λ k d lt. (tells (get_or earlier k d) x).0 (new k d lt)) in
      subst (λ ys. AllPairs R ys) (append_assoc earlier (x ∷ []) xs) (pairs-from_new (earlier ++ x ∷ []) xs more after.1)

  pub new-from_pairs : (earlier xs : List A) → AllByRecursion F xs → AllPairs R (earlier ++ xs) → AllAfter (AndNew same key F) earlier xs
  new-from_pairs earlier [] each pairs = tt
  new-from_pairs earlier (x ∷ xs) each pairs =
      let new = list_all-from_AllPass (λ y. not (same y (key x))) earlier (λ k d lt.
      let low : get_or (earlier ++ x ∷ xs) k d ≡ get_or earlier k d = get_or-append earlier (x ∷ xs) d k lt in
      let high : get_or (earlier ++ x ∷ xs) (length earlier) d ≡ x = get_or-append_seam earlier x xs d in
      let apart : R (get_or (earlier ++ x ∷ xs) k d) (get_or (earlier ++ x ∷ xs) (length earlier) d) =
      pairs k (length earlier) d lt (omega (arith, length-append earlier (x ∷ xs))) in
      let apart2 : R (get_or earlier k d) (get_or (earlier ++ x ∷ xs) (length earlier) d) = subst (λ y. R y (get_or (earlier ++ x ∷ xs) (length earlier) d)) low apart in
      (tells (get_or earlier k d) x).1 (subst (λ y. R (get_or earlier k d) y) high apart2)) in
      ((each.0, new), new-from_pairs (earlier ++ x ∷ []) xs each.1 (subst (λ ys. AllPairs R ys) (sym (append_assoc earlier (x ∷ []) xs)) pairs))

  pub no_pairs : AllPairs R []
  no_pairs i j d lt within = absurd (omega arith)
