-- Whether two entries are one is decided, and so whether a list holds an entry.
use Rattle.std.proofs.Common.{◌≡◌, ℕ, zero, suc, ◌↔◌, ◌<◌, ◌⊎◌, inl, inr, Bool, true, false, IsTrue, List, [], ◌∷◌, length, ap, refl, arith, ⊎_elim}
use Rattle.std.specs.List.{Contains}
use Rattle.std.specs.Coded.{Coded}
use Rattle.std.proofs.lemmas.Bool.{cases_eq}
use base.Stored.{Gv, gnil, gnum, gcons}
use Rattle.arc_data.specs.contracts.record.Record as entry
use Rattle.arc_data.specs.declared.record.Record.{Record}

-- a decision is carried along two implications
carried : {A B : Type 0} → (A → B) → (B → A) → Dec A → Dec B
carried f g (yes a) = yes (f a)
carried f g (no n) = no (λ b. n (g b))

both : {A B : Type 0} → Dec A → Dec B → Dec (A × B)
both (yes a) (yes b) = yes (a, b)
both (yes a) (no n) = no (λ p. n p.1)
both (no n) d = no (λ p. n p.0)

either : {A B : Type 0} → Dec A → Dec B → Dec (A ⊎ B)
either (yes a) d = yes (inl a)
either (no n) (yes b) = yes (inr b)
either (no n) (no m) = no (λ h. ⊎_elim n m h)

same_number : (m n : ℕ) → Dec (m ≡ n)
same_number m n = ⊎_elim (λ e. yes e) (λ differ. no differ) (cases_eq m n)

-- the parts of a code
abbrev number_in : Gv → ℕ
number_in gnil = 0
number_in (gnum n) = n
number_in (gcons a b) = 0

abbrev first_in : Gv → Gv
first_in gnil = gnil
first_in (gnum n) = gnil
first_in (gcons a b) = a

abbrev second_in : Gv → Gv
second_in gnil = gnil
second_in (gnum n) = gnil
second_in (gcons a b) = b

-- two codes are one, or not
same_code : (a b : Gv) → Dec (a ≡ b)
same_code gnil gnil = yes refl
same_code gnil (gnum n) = no (λ e. cc)
same_code gnil (gcons a b) = no (λ e. cc)
same_code (gnum m) gnil = no (λ e. cc)
same_code (gnum m) (gnum n) = carried (λ e. ap gnum e) (λ e. ap number_in e) (same_number m n)
same_code (gnum m) (gcons a b) = no (λ e. cc)
same_code (gcons a b) gnil = no (λ e. cc)
same_code (gcons a b) (gnum n) = no (λ e. cc)
same_code (gcons a b) (gcons c d) =
    carried (λ p i. gcons (p.0 i) (p.1 i)) (λ e. (ap first_in e, ap second_in e)) (both (same_code a c) (same_code b d))

-- two values that have codes are one, or not
same_coded : {A : Type 0} → Coded A → (x y : A) → Dec (x ≡ y)
same_coded c x y = carried (c.inj x y) (λ e. ap c.code e) (same_code (c.code x) (c.code y))

same_entry : (x y : Record) → Dec (x ≡ y)
same_entry = same_coded entry.the_row.coded

-- what stands in a list is its first element or stands behind that
of_parts : (y : Record) (ys : List Record) (x : Record) → (y ≡ x) ⊎ Contains ys x → Contains (y ∷ ys) x
of_parts y ys x (inl e) = let small : 0 < length (y ∷ ys) = omega arith in (0, small, e)
of_parts y ys x (inr (k, lt, e)) = let small : suc k < length (y ∷ ys) = omega (arith, lt) in (suc k, small, e)

in_parts : (y : Record) (ys : List Record) (x : Record) → Contains (y ∷ ys) x → (y ≡ x) ⊎ Contains ys x
in_parts y ys x (zero, lt, e) = inl e
in_parts y ys x (suc k, lt, e) = let small : k < length ys = omega (arith, lt) in inr (k, small, e)

nothing : (x : Record) → Contains [] x → ⊥
nothing x there = omega (arith, there.1)

stands_or_not : (xs : List Record) (x : Record) → Dec (Contains xs x)
stands_or_not [] x = no (nothing x)
stands_or_not (y ∷ ys) x = carried (of_parts y ys x) (in_parts y ys x) (either (same_entry y x) (stands_or_not ys x))

truth : {P : Type 0} → Dec P → (b : Bool) × (IsTrue b ↔ P)
truth (yes p) = (true, (λ _. p, λ _. refl))
truth (no n) = (false, (λ is. cc, λ p. absurd (n p)))

-- a truth value tells whether the list holds the entry
pub told_whether : (xs : List Record) (x : Record) → (b : Bool) × (IsTrue b ↔ Contains xs x)
told_whether xs x = truth (stands_or_not xs x)
