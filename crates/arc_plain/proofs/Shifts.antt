-- What holds of the customer's shifts after each call.
use Rattle.std.proofs.Common.{◌≡◌, ℕ, ◌<◌, ◌≤◌, ◌==◌, ◌&&◌, Bool, true, false, cond, List, [], ◌∷◌, ◌++◌, length, get_or, set, filter, position, Option, Some, None, is_some, All, Ok, Err, refl, sym, ap, ◌∙◌, arith, leb, inl, inr}
use Rattle.std.proofs.lemmas.Bool.{cases_eq, eq-eqb}
use Rattle.std.proofs.lemmas.Bool.Decides.{nat_tests}
use Rattle.std.proofs.lemmas.List.{get_or_default, get_or-set_other, length-set}
use Rattle.std.proofs.lemmas.List.Quantifiers.{all_pairs_push, position-Some}
use Rattle.std.proofs.lemmas.List.Kept.{AllPairs-filter}
use Rattle.std.proofs.lemmas.Grind.{get_or-set_at}
use Rattle.arc_ids.specs.declared.named_id.ShiftId.{ShiftId}
use Rattle.arc_ids.specs.declared.named_id.ResourceId.{ResourceId}
use Rattle.arc_data.specs.declared.shift.Shift.{Shift}
use Rattle.arc_data.specs.declared.shift.Status.TheVariants.{Active, Expired, Canceled}
use Rattle.arc_data.specs.declared.reply.Refusal.TheVariants.{NotActive}
use Rattle.arc_plain.specs.Shifts.{AreAlone, AreApart, AreInOrder, AreKeptShifts, HaveStarted, active_of, changed, is_active, renewed, shift_of, status_at, was_canceled, with_changed}
use Rattle.arc_plain.proofs.Choices.{if_yes}
use Rattle.arc_plain.proofs.Found.{find_there}
use Rattle.arc_plain.proofs.Keyed.{changed-set}
use Rattle.arc_plain.proofs.Unfound.{unfound}

-- ---- a shift that isn't active stays so

inactive_later : (canceled : Bool) (expiry t now : ℕ) →
    is_active (cond canceled Canceled (cond (leb expiry t) Expired Active)) ≡ false → t ≤ now →
    is_active (cond canceled Canceled (cond (leb expiry now) Expired Active)) ≡ false
inactive_later true expiry t now before later = refl
inactive_later false expiry t now before later = by_time (leb expiry t) (leb expiry now) before (λ over. grind (arith, nat_tests))
  where
    by_time : (over over' : Bool) → is_active (cond over Expired Active) ≡ false → (over ≡ true → over' ≡ true) →
        is_active (cond over' Expired Active) ≡ false
    by_time true over' is stays = rw (stays refl) refl
    by_time false over' is stays = absurd (cc)

pub stays_inactive : (s : Shift) (t now : ℕ) → is_active (status_at s t) ≡ false → t ≤ now → is_active (status_at s now) ≡ false
stays_inactive s t now before later = inactive_later (was_canceled s) s.expiry t now before later

-- ---- one more shift

-- none of the resource is active
none_active : (xs : List Shift) (resource : ResourceId) (now k : ℕ) (d : Shift) → is_some (active_of xs resource now) ≡ false →
    k < length xs → (get_or xs k d).resource.0 ≡ resource.0 → is_active (status_at (get_or xs k d) now) ≡ false
none_active xs resource now k d free within own =
    let none : active_of xs resource now ≡ None = nothing (active_of xs resource now) free in
    let fails = unfound (λ s. (s.resource.0 == resource.0) && is_active (status_at s now)) xs none k d within in
    let test = eq-eqb (get_or xs k d).resource.0 resource.0 own in
    rw test at fails
  where
    nothing : (o : Option Shift) → is_some o ≡ false → o ≡ None
    nothing None free = refl
    nothing (Some s) free = absurd (cc)

-- a shift of a resource that has none active
pub kept_after_start : (xs : List Shift) (s : Shift) → AreKeptShifts xs → All (λ x. x.id.0 < s.id.0) xs →
    is_some (active_of xs s.resource s.start) ≡ false → AreKeptShifts (xs ++ s ∷ [])
kept_after_start xs s kept above free = record {
  in_order = all_pairs_push (λ earlier later. earlier.id.0 < later.id.0) xs s kept.in_order (λ k d within. above k d within);
  apart = all_pairs_push (λ earlier later. earlier.resource.0 ≡ later.resource.0 → is_active (status_at earlier later.start) ≡ false) xs s kept.apart
      (λ k d within own. none_active xs s.resource s.start k d free within own);
}

-- ---- a changed shift

-- a shift with the same identifier, resource and start
pub record IsSameShift (s s' : Shift) : Type 0 where
  pub id : s'.id.0 ≡ s.id.0
  pub resource : s'.resource.0 ≡ s.resource.0
  pub start : s'.start ≡ s.start

-- the shift at a place, after one was changed
same_at : (xs : List Shift) (i k : ℕ) (d y z : Shift) → i < length xs → IsSameShift (get_or xs i d) y →
    IsSameShift (get_or xs k z) (get_or (set xs i y) k z)
same_at xs i k d y z there same =
    elim (cases_eq k i) [
      | inl here ↦
          let new : get_or (set xs i y) k z ≡ y = get_or-set_at xs i k y z here there in
          let old : get_or xs k z ≡ get_or xs i d = ap (λ n. get_or xs n z) here ∙ get_or_default xs i z d there in
          record {
            id = ap (λ (s : Shift). s.id.0) new ∙ same.id ∙ sym (ap (λ (s : Shift). s.id.0) old);
            resource = ap (λ (s : Shift). s.resource.0) new ∙ same.resource ∙ sym (ap (λ (s : Shift). s.resource.0) old);
            start = ap (λ (s : Shift). s.start) new ∙ same.start ∙ sym (ap (λ (s : Shift). s.start) old);
          }
      | inr elsewhere ↦
          let new : get_or (set xs i y) k z ≡ get_or xs k z = get_or-set_other xs i k y z elsewhere in
          record {
            id = ap (λ (s : Shift). s.id.0) new;
            resource = ap (λ (s : Shift). s.resource.0) new;
            start = ap (λ (s : Shift). s.start) new;
          }
    ]

-- no later shift has the resource of one that is active
apart_at : (xs : List Shift) (i now k j : ℕ) (d y z : Shift) → AreApart xs → HaveStarted xs now → i < length xs →
    is_active (status_at (get_or xs i d) now) ≡ true → IsSameShift (get_or xs i d) y → k < j → j < length xs →
    (get_or xs k z).resource.0 ≡ (get_or xs j z).resource.0 →
    is_active (status_at (get_or (set xs i y) k z) (get_or xs j z).start) ≡ false
apart_at xs i now k j d y z apart begun there active same before within own =
    elim (cases_eq k i) [
      | inl here ↦
          let old : get_or xs k z ≡ get_or xs i d = ap (λ n. get_or xs n z) here ∙ get_or_default xs i z d there in
          let over = stays_inactive (get_or xs k z) (get_or xs j z).start now (apart k j z before within own) (begun j z within) in
          let still = ap (λ (s : Shift). is_active (status_at s now)) old ∙ active in
          absurd (cc)
      | inr elsewhere ↦
          ap (λ (s : Shift). is_active (status_at s (get_or xs j z).start)) (get_or-set_other xs i k y z elsewhere)
          ∙ apart k j z before within own
    ]

-- an active shift that was changed is kept as the others are
pub kept_after_set : (xs : List Shift) (i now : ℕ) (d y : Shift) → AreKeptShifts xs → HaveStarted xs now → i < length xs →
    is_active (status_at (get_or xs i d) now) ≡ true → IsSameShift (get_or xs i d) y → AreKeptShifts (set xs i y)
kept_after_set xs i now d y kept begun there active same = record {
  in_order = λ k j z before within.
      let inside : j < length xs = rw (length-set xs i y) at within in
      omega (arith, kept.in_order k j z before inside, (same_at xs i k d y z there same).id, (same_at xs i j d y z there same).id);
  apart = λ k j z before within own.
      let inside : j < length xs = rw (length-set xs i y) at within in
      let first = same_at xs i k d y z there same in
      let second = same_at xs i j d y z there same in
      ap (λ t. is_active (status_at (get_or (set xs i y) k z) t)) second.start
      ∙ apart_at xs i now k j d y z kept.apart begun there active same before inside (sym first.resource ∙ own ∙ second.resource);
}

-- ---- a forgotten shift

pub kept_after_forget : (p : Shift → Bool) (xs : List Shift) → AreKeptShifts xs → AreKeptShifts (filter p xs)
kept_after_forget p xs kept = record {
  in_order = AllPairs-filter (λ earlier later. earlier.id.0 < later.id.0) p xs kept.in_order;
  apart = AllPairs-filter (λ earlier later. earlier.resource.0 ≡ later.resource.0 → is_active (status_at earlier later.start) ≡ false) p xs kept.apart;
}

-- ---- what callers are told

-- at most one shift of a resource is active
pub alone : (xs : List Shift) → AreKeptShifts xs → AreAlone xs
alone xs kept now begun i j d before within own active =
    let over = stays_inactive (get_or xs i d) (get_or xs j d).start now (kept.apart i j d before within own) (begun j d within) in
    absurd (cc)

-- ---- what a change of a shift that is there gives

-- an active shift is changed at its place
pub changed_there : (change : Shift → Shift) (xs : List Shift) (id : ShiftId) (now i : ℕ) (d : Shift) → AreInOrder xs →
    position (λ s. s.id.0 == id.0) xs ≡ Some i → is_active (status_at (get_or xs i d) now) ≡ true →
    changed change xs id now (shift_of xs id) ≡ Ok (set xs i (change (get_or xs i d)))
changed_there change xs id now i d in_order there active =
    let place = (position-Some (λ s. s.id.0 == id.0) xs i d there).0 in
    let x = get_or xs i d in
    let found = find_there (λ s. s.id.0 == id.0) xs i x there (get_or_default xs i d x place) in
    ap (changed change xs id now) found
    ∙ if_yes (is_active (status_at x now)) (Ok (with_changed change id xs)) (Err (NotActive (status_at x now))) active
    ∙ ap Ok (changed-set (λ s. s.id.0) change xs id.0 i d in_order there)

-- a renewed shift is the same shift
pub renewed_same : (comment : Option (List ℕ)) (minutes : Option ℕ) (now : ℕ) (s : Shift) → IsSameShift s (renewed comment minutes now s)
renewed_same comment minutes now s = record { id = refl; resource = refl; start = refl }
