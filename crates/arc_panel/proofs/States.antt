-- The states of controls, as a map from their numbers.
use Rattle.std.proofs.Common.{◌≡◌, ◌≢◌, ℕ, ◌==◌, Bool, true, false, cond, not, ◌&&◌, ◌||◌, inl, inr, List, [], ◌∷◌, map, filter, find, Option, Some, None, refl, sym, ap, ◌∙◌, arith}
use Rattle.std.specs.List.{list_any, AllByRecursion}
use Rattle.std.specs.Ordering.{nat_cmp, eq_by_cmp}
use Rattle.std.specs.Option.{is_some, option_map, unwrap_or}
use Rattle.std.specs.Cmp.{nat_cmp_total}
use Rattle.std.specs.FinMap.{FinMap, get, insert, remove, get-insert, get-remove}
use Rattle.std.proofs.lemmas.Bool.{cases_eq, eqb-true}
use Rattle.std.proofs.lemmas.Bool.Decides.{nat_tests}
use Rattle.arc_ids.specs.declared.named_id.ControlId.{ControlId}
use Rattle.arc_data.specs.declared.batch.Entry.{Entry}
use Rattle.arc_data.specs.States.{has_state, is_on}
use Rattle.arc_plain.specs.Panels.{set_by, with_set}
use Rattle.arc_panel.specs.declared.tables.Control.{Control}
use Rattle.arc_panel.specs.Kept.{item_with}

-- two numbers that tie are one
ties : (a b : ℕ) → eq_by_cmp nat_cmp a b ≡ (a == b)
ties a b = grind (arith, nat_tests)

-- the map after a control was put there
pub get_put : (states : FinMap nat_cmp Bool) (k q : ℕ) (on : Bool) →
    get (insert states k on) q ≡ cond (q == k) (Some on) (get states q)
get_put states k q on = get-insert nat_cmp_total states k on q ∙ rw (ties q k) refl

-- the map after a control was taken away
pub get_taken : (states : FinMap nat_cmp Bool) (k q : ℕ) → get (remove states k) q ≡ cond (q == k) None (get states q)
get_taken states k q = get-remove nat_cmp_total states k q ∙ rw (ties q k) refl

-- a control whose number isn't k
abbrev pub IsOther : ℕ → Control → Type 0
IsOther k c = c.control.0 ≢ k

-- controls of other numbers keep their states when one is put there
pub items_put : (states : FinMap nat_cmp Bool) (k : ℕ) (on : Bool) (controls : List Control) →
    AllByRecursion (IsOther k) controls →
    map (item_with (insert states k on)) controls ≡ map (item_with states) controls
items_put states k on [] other = refl
items_put states k on (c ∷ controls) other =
    let apart : (c.control.0 == k) ≡ false = grind (arith, nat_tests, other.0) in
    rw (get_put states k c.control.0 on, apart, items_put states k on controls other.1) refl

-- controls that stay keep their states when another's is taken away
stays : (b : Bool) (c : Control) (states : FinMap nat_cmp Bool) (k : ℕ) (xs : List Control) → (c.control.0 == k) ≡ b →
    map (item_with (remove states k)) xs ≡ map (item_with states) xs →
    map (item_with (remove states k)) (cond (not b) (c ∷ xs) xs) ≡ map (item_with states) (cond (not b) (c ∷ xs) xs)
stays true c states k xs own others = others
stays false c states k xs apart others = rw (get_taken states k c.control.0, apart, others) refl

pub items_taken : (states : FinMap nat_cmp Bool) (k : ℕ) (controls : List Control) →
    map (item_with (remove states k)) (filter (λ c. not (c.control.0 == k)) controls)
    ≡ map (item_with states) (filter (λ c. not (c.control.0 == k)) controls)
items_taken states k [] = refl
items_taken states k (c ∷ controls) =
    stays (c.control.0 == k) c states k (filter (λ x. not (x.control.0 == k)) controls) refl (items_taken states k controls)

-- a control that is switched is set by its entry, and the others aren't
set_each : (states : FinMap nat_cmp Bool) (e : Entry) (c : Control) →
    item_with (insert states e.control.0 e.on) c
    ≡ set_by (find (λ x. x.control.0 == c.control.0) (e ∷ [])) (item_with states c)
set_each states e c =
    elim (cases_eq c.control.0 e.control.0) [
      | inl own ↦
          let forth : (c.control.0 == e.control.0) ≡ true = grind (arith, nat_tests) in
          let back : (e.control.0 == c.control.0) ≡ true = grind (arith, nat_tests) in
          rw (get_put states e.control.0 c.control.0 e.on, forth, back) refl
      | inr other ↦
          let forth : (c.control.0 == e.control.0) ≡ false = grind (arith, nat_tests) in
          let back : (e.control.0 == c.control.0) ≡ false = grind (arith, nat_tests) in
          rw (get_put states e.control.0 c.control.0 e.on, forth, back) refl
    ]

pub items_set : (states : FinMap nat_cmp Bool) (e : Entry) (controls : List Control) →
    map (item_with (insert states e.control.0 e.on)) controls ≡ with_set (e ∷ []) (map (item_with states) controls)
items_set states e [] = refl
items_set states e (c ∷ controls) =
    ap (λ x. x ∷ map (item_with (insert states e.control.0 e.on)) controls) (set_each states e c)
    ∙ ap (λ l. set_by (find (λ x. x.control.0 == c.control.0) (e ∷ [])) (item_with states c) ∷ l) (items_set states e controls)

-- what is found is there
some_found : {A : Type 0} (b : Bool) (x : A) (o : Option A) → is_some (cond b (Some x) o) ≡ (b || is_some o)
some_found true x o = refl
some_found false x o = refl

pub is_some_found : {A : Type 0} (p : A → Bool) (xs : List A) → is_some (find p xs) ≡ list_any p xs
is_some_found p [] = refl
is_some_found p (x ∷ xs) = some_found (p x) x (find p xs) ∙ ap (λ b. p x || b) (is_some_found p xs)

-- what is found passes
passes_head : {A : Type 0} (p : A → Bool) (b : Bool) (x y : A) (o : Option A) → p x ≡ b → (o ≡ Some y → p y ≡ true) →
    cond b (Some x) o ≡ Some y → p y ≡ true
passes_head p true x y o own rest found = let same : x ≡ y = cc in rw (← same) own
passes_head p false x y o own rest found = rest found

pub found_passes : {A : Type 0} (p : A → Bool) (xs : List A) (y : A) → find p xs ≡ Some y → p y ≡ true
found_passes p [] y found = cc
found_passes p (x ∷ xs) y found = passes_head p (p x) x y (find p xs) refl (found_passes p xs y) found

nothing_there : (o : Option Bool) → is_some o ≡ false → unwrap_or o false ≡ false
nothing_there None none = refl
nothing_there (Some x) none = cc

-- the state of the control that is found, or Off
on_found : (states : FinMap nat_cmp Bool) (c : ControlId) (controls : List Control) (o : Option Control) →
    find (λ k. k.control.0 == c.0) controls ≡ o → has_state states c ≡ is_some o →
    is_on states c ≡ unwrap_or (option_map (λ k. is_on states k.control) o) false
on_found states c controls None found has = nothing_there (get states c.0) has
on_found states c controls (Some k) found has =
    let own : k.control.0 ≡ c.0 = eqb-true k.control.0 c.0 (found_passes (λ x. x.control.0 == c.0) controls k found) in
    rw own refl

pub is_on_found : (states : FinMap nat_cmp Bool) (c : ControlId) (controls : List Control) →
    has_state states c ≡ list_any (λ k. k.control.0 == c.0) controls →
    is_on states c ≡ unwrap_or (option_map (λ k. is_on states k.control) (find (λ k. k.control.0 == c.0) controls)) false
is_on_found states c controls has =
    on_found states c controls (find (λ k. k.control.0 == c.0) controls) refl
    (has ∙ sym (is_some_found (λ k. k.control.0 == c.0) controls))

-- ---- which controls have a state

-- after one was put there
pub has_put : (states : FinMap nat_cmp Bool) (k : ℕ) (on : Bool) (c : ControlId) →
    has_state (insert states k on) c ≡ ((c.0 == k) || has_state states c)
has_put states k on c = rw (get_put states k c.0 on) (some_found (c.0 == k) on (get states c.0))

-- after one was taken away
none_found : {A : Type 0} (b : Bool) (o : Option A) → is_some (cond b None o) ≡ (not b && is_some o)
none_found true o = refl
none_found false o = refl

pub has_taken : (states : FinMap nat_cmp Bool) (k : ℕ) (c : ControlId) →
    has_state (remove states k) c ≡ (not (c.0 == k) && has_state states c)
has_taken states k c = rw (get_taken states k c.0) (none_found (c.0 == k) (get states c.0))
