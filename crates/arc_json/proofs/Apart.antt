-- Where no two items are the same, they are apart.
use Rattle.std.proofs.Common.{◌≡◌, ◌≢◌, ◌==◌, ◌||◌, ◌<◌, ℕ, zero, suc, Bool, true, false, not, List, [], ◌∷◌, length, get_or, AllPairs, refl, ap, arith}
use Rattle.std.specs.List.{list_any}
use Rattle.std.specs.Str.{bytes_eq}
use Rattle.std.proofs.lemmas.Bool.{and_parts, eq-eqb, not-true}
use Rattle.std.proofs.lemmas.List.Kept.{AllPairs-cons}
use Rattle.std.proofs.lemmas.Slice.Eq.{bytes_eq-Decides}
use Rattle.arc_ids.specs.declared.named_id.ControlId.{ControlId}
use Rattle.arc_data.specs.declared.batch.Entry.{Entry}
use Rattle.arc_members.specs.Lists.{all_differ}
use Rattle.arc_json.specs.Batches.{same_control}
use Rattle.arc_json.specs.Rules.{same_id}

or_false : (a b : Bool) → (a || b) ≡ false → (a ≡ false) × (b ≡ false)
or_false true b is = absurd cc
or_false false b is = (refl, is)

-- where no element passes a test, each fails it
none_is : {A : Type 0} (p : A → Bool) (xs : List A) → list_any p xs ≡ false → (k : ℕ) (d : A) → k < length xs → p (get_or xs k d) ≡ false
none_is p [] none k d lt = absurd (omega arith)
none_is p (x ∷ xs) none zero d lt = (or_false (p x) (list_any p xs) none).0
none_is p (x ∷ xs) none (suc k) d lt = none_is p xs (or_false (p x) (list_any p xs) none).1 k d (omega arith)

-- controls with other numbers are others
differs : (a b : ControlId) → (a.0 == b.0) ≡ false → a ≡ b → ⊥
differs a b other same =
    let number : a.0 ≡ b.0 = ap (λ (c : ControlId). c.0) same in
    let is : (a.0 == b.0) ≡ true = eq-eqb a.0 b.0 number in
    absurd cc

-- a test that finds no pair that is the same, where it decides a relation
apart : {A : Type 0} (same : A → A → Bool) (R : A → A → Type 0) → ((a b : A) → same a b ≡ false → R a b) →
    (xs : List A) → all_differ same xs ≡ true → AllPairs R xs
apart same R decides [] differ = λ i j d lt within. absurd (omega arith)
apart same R decides (x ∷ xs) differ =
    let both = and_parts (not (list_any (same x) xs)) (all_differ same xs) differ in
    AllPairs-cons R x xs (λ k d lt. decides x (get_or xs k d) (none_is (same x) xs (not-true _ both.0) k d lt)) (apart same R decides xs both.1)

-- changes of other controls
pub entries_apart : (entries : List Entry) → all_differ same_control entries ≡ true → AllPairs (λ a b. a.control ≢ b.control) entries
entries_apart entries differ = apart same_control (λ a b. a.control ≢ b.control) (λ a b other same. absurd (differs a.control b.control other same)) entries differ

-- controls that are there once
pub controls_apart : (controls : List ControlId) → all_differ same_id controls ≡ true → AllPairs (λ a b. a ≢ b) controls
controls_apart controls differ = apart same_id (λ a b. a ≢ b) (λ a b other same. absurd (differs a b other same)) controls differ

-- zones that are there once
pub zones_apart : (zones : List (List ℕ)) → all_differ bytes_eq zones ≡ true → AllPairs (λ a b. a ≢ b) zones
zones_apart zones differ = apart bytes_eq (λ a b. a ≢ b) (λ a b other same. let is : bytes_eq a b ≡ true = (bytes_eq-Decides a b).1 same in absurd cc) zones differ
