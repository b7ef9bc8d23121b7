-- The views of a table after one of them changed, or one more came.
use Rattle.std.proofs.Common.{◌≡◌, ◌≢◌, ℕ, zero, suc, List, [], ◌∷◌, ◌++◌, set, refl, sym, ap, ◌∙◌, subst, ⊎_elim}
use mathlib.Core.Logic.{dite}
use mathlib.Core.Option.{some, some-injective, some-ne-none}
use native.Mathlib.Decide.{ℕ_discrete}
use lib.ListN.{get_elem?}
use Rattle.atomic_table.proofs.Lists.{at_set, set_else, at_longer, at_snoc}
use Rattle.arc_turn.specs.declared.view.View.{View}
use Rattle.arc_turn.specs.Rule.{Has}

module _ {A : Type 0} where
  -- where something stands, what is put there stands there
  pub set_there : (l : List A) (i : ℕ) (a b : A) → get_elem? l i ≡ some b → get_elem? (set l i a) i ≡ some a
  set_there [] i a b e = absurd (some-ne-none b (sym e))
  set_there (x ∷ xs) zero a b e = refl
  set_there (x ∷ xs) (suc i) a b e = set_there xs i a b e

  -- a fact of every place stays true where one place changed
  pub each_set : (K K' : ℕ → A → Type 0) (l : List A) (i : ℕ) (a : A) → K' i a
      → ((j : ℕ) (b : A) → j ≢ i → K j b → K' j b) → ((j : ℕ) (b : A) → get_elem? l j ≡ some b → K j b)
      → (j : ℕ) (b : A) → get_elem? (set l i a) j ≡ some b → K' j b
  each_set K K' l i a here others each j b e =
      ⊎_elim (λ (t : (j ≡ i) × (a ≡ b)). subst (λ (p : ℕ × A). K' p.0 p.1) (λ c. (sym t.0 c, t.1 c)) here)
      (λ (t : (j ≢ i) × (get_elem? l j ≡ some b)). others j b t.0 (each j b t.1)) (at_set l i j a b e)

  -- a fact of every place stays true where one more comes
  pub each_snoc : (K : ℕ → A → Type 0) (l : List A) (a : A) → ((j : ℕ) → K j a)
      → ((j : ℕ) (b : A) → get_elem? l j ≡ some b → K j b)
      → (j : ℕ) (b : A) → get_elem? (l ++ a ∷ []) j ≡ some b → K j b
  each_snoc K l a new each j b e =
      ⊎_elim (each j b) (λ (t : a ≡ b). subst (K j) t (new j)) (at_snoc l a b j e)

-- what a seat's view is so, after another's or its own changed
pub has_set : (views : List View) (i j : ℕ) (a b : View) (P Q : View → Type 0) → get_elem? views i ≡ some b → (P b → Q a)
    → ((w : View) → j ≢ i → P w → Q w) → Has views j P → Has (set views i a) j Q
has_set views i j a b P Q at here others h = dite (ℕ_discrete j i)
    (λ (e : j ≡ i). let same : h.0 ≡ b = some-injective h.0 b (sym h.1 ∙ (ap (get_elem? views) e ∙ at)) in
    (a, ap (get_elem? (set views i a)) e ∙ set_there views i a b at, here (subst P same h.2)))
    (λ (n : j ≢ i). (h.0, set_else views i j a n ∙ h.1, others h.0 n h.2))

-- the same after one more view came
pub has_snoc : (views : List View) (j : ℕ) (a : View) (P : View → Type 0) → Has views j P → Has (views ++ a ∷ []) j P
has_snoc views j a P h = (h.0, at_longer views (a ∷ []) j h.0 h.1, h.2)
