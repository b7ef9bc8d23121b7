-- Setting controls changes nothing of them but whether they are On.
use Rattle.std.proofs.Common.{◌≡◌, ℕ, ◌+◌, ◌-◌, ◌<◌, ◌≤◌, ◌==◌, Bool, true, false, cond, List, [], ◌∷◌, find, length, get_or, drop, Option, Some, None, AllPairs, refl, sym, ap, ◌∙◌, arith}
use Rattle.std.proofs.lemmas.List.{get_or-map, length-map, drop_all, drop_more}
use Rattle.arc_data.specs.declared.batch.Entry.{Entry}
use Rattle.arc_data.specs.declared.reply.ControlItem.{ControlItem}
use Rattle.arc_plain.specs.Panels.{set_by, with_set}
use Rattle.arc_plain.specs.Laws.{AreAscending, AreDrawn}

-- the same control, On or Off
pub record IsSameControl (c c' : ControlItem) : Type 0 where
  pub panel : c'.panel.0 ≡ c.panel.0
  pub control : c'.control.0 ≡ c.control.0
  pub name : c'.name ≡ c.name

-- a change leaves the control
set_by_same : (entry : Option Entry) (c : ControlItem) → IsSameControl c (set_by entry c)
set_by_same None c = record { panel = refl; control = refl; name = refl }
set_by_same (Some entry) c = record { panel = refl; control = refl; name = refl }

-- at each place
set_at : (entries : List Entry) (xs : List ControlItem) (k : ℕ) (d : ControlItem) → k < length xs →
    IsSameControl (get_or xs k d) (get_or (with_set entries xs) k d)
set_at entries xs k d within =
    let for_it = λ (c : ControlItem). find (λ e. e.control.0 == c.control.0) entries in
    rw (get_or-map (λ c. set_by (for_it c) c) xs k d d within) (set_by_same (for_it (get_or xs k d)) (get_or xs k d))

-- and there are as many
pub length_after_sets : (entries : List Entry) (xs : List ControlItem) → length (with_set entries xs) ≡ length xs
length_after_sets entries xs = length-map xs (λ c. set_by (find (λ e. e.control.0 == c.control.0) entries) c)

-- what holds of any two controls, whether they are On or Off, holds of them after they were set
pub pairs_after_sets : (R : ControlItem → ControlItem → Type 0) →
    ((a b a' b' : ControlItem) → IsSameControl a a' → IsSameControl b b' → R a b → R a' b') →
    (entries : List Entry) (xs : List ControlItem) → AllPairs R xs → AllPairs R (with_set entries xs)
pairs_after_sets R keeps entries xs before i j d earlier within =
    let within' : j < length xs = omega (arith, length_after_sets entries xs) in
    keeps (get_or xs i d) (get_or xs j d) (get_or (with_set entries xs) i d) (get_or (with_set entries xs) j d)
    (set_at entries xs i d (omega arith)) (set_at entries xs j d within') (before i j d earlier within')

-- changes leave the identifiers in order
pub ascending_after_sets : (entries : List Entry) (xs : List ControlItem) →
    AreAscending xs → AreAscending (with_set entries xs)
ascending_after_sets =
    pairs_after_sets (λ earlier later. earlier.control.0 < later.control.0)
    (λ a b a' b' same same' below. omega (arith, same.control, same'.control))

-- and they are those that were drawn
pub drawn_after_sets : (entries : List Entry) (xs : List ControlItem) (drawn : ℕ) →
    AreDrawn (λ c. c.control.0) xs drawn → AreDrawn (λ c. c.control.0) (with_set entries xs) drawn
drawn_after_sets entries xs drawn before = record {
  ascending = ascending_after_sets entries xs before.ascending;
  drawn_before = λ k d within.
      let within' : k < length xs = omega (arith, length_after_sets entries xs) in
      rw (set_at entries xs k d within').control (before.drawn_before k d within');
}

-- ---- one entry after another

-- the last of two changes decides
set_by_twice : (b : Bool) (e : Entry) (o : Option Entry) (c : ControlItem) →
    set_by (cond b (Some e) o) c ≡ set_by (cond b (Some e) None) (set_by o c)
set_by_twice true e None c = refl
set_by_twice true e (Some x) c = refl
set_by_twice false e o c = refl

-- the same where the test looks at the changed control
set_by_onto : (e : Entry) (o : Option Entry) (c : ControlItem) →
    set_by (cond (e.control.0 == c.control.0) (Some e) o) c
    ≡ set_by (cond (e.control.0 == (set_by o c).control.0) (Some e) None) (set_by o c)
set_by_onto e None c = set_by_twice (e.control.0 == c.control.0) e None c
set_by_onto e (Some x) c = set_by_twice (e.control.0 == c.control.0) e (Some x) c

-- one more entry before the others is one more change after theirs
pub with_set-cons : (e : Entry) (rest : List Entry) (xs : List ControlItem) →
    with_set (e ∷ rest) xs ≡ with_set (e ∷ []) (with_set rest xs)
with_set-cons e rest [] = refl
with_set-cons e rest (c ∷ xs) =
    let first = set_by_onto e (find (λ x. x.control.0 == c.control.0) rest) c in
    let others = with_set-cons e rest xs in
    cc

-- no entry changes nothing
pub with_set-nil : (xs : List ControlItem) → with_set [] xs ≡ xs
with_set-nil [] = refl
with_set-nil (c ∷ xs) = ap (λ l. c ∷ l) (with_set-nil xs)

-- before the first of the last entries no entry is set
pub sets_none : (entries : List Entry) (xs : List ControlItem) → xs ≡ with_set (drop (length entries) entries) xs
sets_none entries xs =
    sym (ap (λ rest. with_set rest xs) (drop_all (length entries) entries (omega arith)) ∙ with_set-nil xs)

-- the entry before the last entries is the next
pub sets_more : (entries : List Entry) (xs ys zs : List ControlItem) (i : ℕ) (d : Entry) → 0 < i → i ≤ length entries →
    ys ≡ with_set (drop i entries) xs → zs ≡ with_set (get_or entries (i - 1) d ∷ []) ys →
    zs ≡ with_set (drop (i - 1) entries) xs
sets_more entries xs ys zs i d some within before now =
    let entry = get_or entries (i - 1) d in
    let next : i - 1 + 1 ≡ i = omega arith in
    let rest = rw next at (drop_more entries (i - 1) d (omega arith)) in
    now
    ∙ ap (λ l. with_set (entry ∷ []) l) before
    ∙ sym (ap (λ l. with_set l xs) rest ∙ with_set-cons entry (drop i entries) xs)
