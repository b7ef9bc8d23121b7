-- A shift that was changed, as it is found then.
use Rattle.std.proofs.Common.{◌≡◌, ◌==◌, ℕ, Bool, true, false, cond, List, [], ◌∷◌, map, find, Option, Some, None, All, Ok, Err, suc, refl, sym, ap, subst, arith, ◌∙◌}
use Rattle.std.specs.Option.{option_map}
use Rattle.arc_ids.specs.declared.named_id.ShiftId.{ShiftId}
use Rattle.arc_data.specs.declared.shift.Shift.{Shift}
use Rattle.arc_data.specs.declared.reply.Body.TheVariants as body
use Rattle.arc_data.specs.declared.reply.Named.TheVariants as named
use Rattle.arc_data.specs.declared.reply.Refusal.TheVariants.{NotActive, NotFound}
use Rattle.arc_data.specs.declared.reply.Reply.{Reply}
use Rattle.arc_data.specs.declared.reply.Reply.TheVariants.{Done, Refused}
use Rattle.arc_plain.specs.Rows.{◌>>=◌, the_found}
use Rattle.arc_plain.specs.State.{Effect, Plain}
use Rattle.arc_plain.specs.Shifts.{changed, is_active, shift_of, status_at, with_changed}
use Rattle.arc_plain.specs.ZonalShifts.{shift_item}
use Rattle.arc_state.specs.declared.parts.Parts.{Parts}
use Rattle.arc_state.specs.Standing.{Does}
use Rattle.arc_state.specs.Told.{told_of}
use Rattle.arc_state.proofs.Stands.{done_by, plain_at, stands_at}

-- what is found of changed items, where the change keeps what is looked for
pub find_map : {X : Type 0} (q : X → Bool) (f : X → X) → ((x : X) → q (f x) ≡ q x) → (xs : List X) →
    find q (map f xs) ≡ option_map f (find q xs)
find_map q f same [] = refl
find_map q f same (x ∷ xs) =
    ap (λ (b : Bool). cond b (Some (f x)) (find q (map f xs))) (same x) ∙ by_test (q x) (find_map q f same xs)
  where
    by_test : (b : Bool) → find q (map f xs) ≡ option_map f (find q xs) →
        cond b (Some (f x)) (find q (map f xs)) ≡ option_map f (cond b (Some x) (find q xs))
    by_test true rest = refl
    by_test false rest = rest

-- a change that keeps identifiers is found at the shift
changed_found : (change : Shift → Shift) → ((s : Shift) → (change s).id.0 ≡ s.id.0) → (shifts : List Shift) (id : ShiftId) (s : Shift) →
    shift_of shifts id ≡ Some s → (s.id.0 == id.0) ≡ true → shift_of (with_changed change id shifts) id ≡ Some (change s)
changed_found change keeps shifts id s found own =
    find_map (λ x. x.id.0 == id.0) (λ x. cond (x.id.0 == id.0) (change x) x) (λ x. by_test (x.id.0 == id.0) x) shifts
    ∙ ap (option_map (λ x. cond (x.id.0 == id.0) (change x) x)) found
    ∙ ap (λ (b : Bool). Some (cond b (change s) s)) own
  where
    by_test : (b : Bool) (x : Shift) → ((cond b (change x) x).id.0 == id.0) ≡ (x.id.0 == id.0)
    by_test true x = ap (λ n. n == id.0) (keeps x)
    by_test false x = refl

-- what a change leaves, where it was made
changed_inside : (change : Shift → Shift) (shifts : List Shift) (id : ShiftId) (now : ℕ) (s : Shift) (left : List Shift) →
    changed change shifts id now (Some s) ≡ Ok left → with_changed change id shifts ≡ left
changed_inside change shifts id now s left done = by_test (is_active (status_at s now)) done
  where
    by_test : (b : Bool) → cond b (Ok (with_changed change id shifts)) (Err (NotActive (status_at s now))) ≡ Ok left →
        with_changed change id shifts ≡ left
    by_test true done = cc
    by_test false done = absurd (cc)

-- what holds of all holds of what is found, and that passes
pub of_found : {X : Type 0} (P : X → Type 0) (q : X → Bool) (xs : List X) (x : X) → All P xs → find q xs ≡ Some x → P x × (q x ≡ true)
of_found P q [] x holds found = absurd (cc)
of_found P q (y ∷ ys) x holds found =
    by_test (q y) refl found (λ rest. of_found P q ys x (λ k d within. holds (suc k) d (omega arith)) rest)
  where
    by_test : (b : Bool) → q y ≡ b → cond b (Some y) (find q ys) ≡ Some x → (find q ys ≡ Some x → P x × (q x ≡ true)) → P x × (q x ≡ true)
    by_test true is found rest =
        let same : y ≡ x = cc in
        subst (λ z. P z × (q z ≡ true)) same (holds 0 y (omega arith), is)
    by_test false is found rest = rest found

-- what is asked of something was asked of what is there
pub mapped : {X Y : Type 0} (f : X → Y) (o : Option X) (y : Y) → Some y ≡ option_map f o → (x : X) × (o ≡ Some x) × (y ≡ f x)
mapped f None y is = absurd (cc)
mapped f (Some x) y is = let same : y ≡ f x = cc in (x, refl, same)

pub unmapped : {X Y : Type 0} (f : X → Y) (o : Option X) → None ≡ option_map f o → o ≡ None
unmapped f None is = refl
unmapped f (Some x) is = absurd (cc)

-- ---- the rows of a changed shift

-- a change of an active shift in a plain state, and what is told of it
abbrev pub changes : Plain → (ℕ → Shift → Shift) → ShiftId → Effect
changes plain change id = do
  shifts ← changed (change plain.time) plain.shifts id plain.time (shift_of plain.shifts id)
  shift ← the_found (NotFound (named.Shift id)) (shift_of shifts id)
  Ok (body.Shift (shift_item shift plain.time), record plain { shifts = shifts })

-- the shift is found as it is then
found_changed : (change : Shift → Shift) → ((s : Shift) → (change s).id.0 ≡ s.id.0) → (shifts left : List Shift) (id : ShiftId) (now : ℕ) (s : Shift) →
    shift_of shifts id ≡ Some s → changed change shifts id now (shift_of shifts id) ≡ Ok left → shift_of left id ≡ Some (change s)
found_changed change keeps shifts left id now s found done =
    let own = (of_found (λ x. Unit {0}) (λ x. x.id.0 == id.0) shifts s (λ k d within. tt) found).1 in
    let inside = changed_inside change shifts id now s left (ap (changed change shifts id now) (sym found) ∙ done) in
    ap (λ (l : List Shift). shift_of l id) (sym inside) ∙ changed_found change keeps shifts id s found own

-- the row of a change that is made
changes_row : (plain : Plain) (change : ℕ → Shift → Shift) (id : ShiftId) (left : List Shift) (s' : Shift) →
    changed (change plain.time) plain.shifts id plain.time (shift_of plain.shifts id) ≡ Ok left → shift_of left id ≡ Some s' →
    changes plain change id ≡ Ok (body.Shift (shift_item s' plain.time), record plain { shifts = left })
changes_row plain change id left s' done found = rw (done, found) refl

-- a change that is made
pub change_does : (parts : Parts) (change : ℕ → Shift → Shift) → ((s : Shift) → (change parts.time s).id.0 ≡ s.id.0) →
    (id : ShiftId) (s : Shift) (left : List Shift) (text : List ℕ) (reply : Reply) →
    shift_of parts.shifts id ≡ Some s → text ≡ (change parts.time s).comment →
    changed (change parts.time) parts.shifts id parts.time (shift_of parts.shifts id) ≡ Ok left →
    reply ≡ told_of (shift_of left id) id text parts.time →
    Does (λ plain. changes plain change id) parts reply (record parts { shifts = left })
change_does parts change keeps id s left text reply found says done told =
    let s' : Shift = change parts.time s in
    let there = found_changed (change parts.time) keeps parts.shifts left id parts.time s found done in
    done_by (λ p. changes p change id) parts reply (record parts { shifts = left })
    (λ rules. Ok (body.Shift (shift_item s' parts.time), record (plain_at parts rules) { shifts = left }))
    (λ rules. changes_row (plain_at parts rules) change id left s' done there)
    (λ rules stands. (
      told
          ∙ ap (λ (o : Option Shift). told_of o id text parts.time) there
          ∙ ap (λ (t : List ℕ). Done (body.Shift (record (shift_item s' parts.time) { comment = t }))) says,
      record { time = refl; count = refl; panels = refl; rules = stands; resources = refl; shifts = refl; practices = refl; shifts_drawn = refl },
    ))

-- a change of a shift that isn't there
pub missing_does : (parts : Parts) (change : ℕ → Shift → Shift) (id : ShiftId) (reply : Reply) →
    shift_of parts.shifts id ≡ None → reply ≡ Refused (NotFound (named.Shift id)) →
    Does (λ plain. changes plain change id) parts reply parts
missing_does parts change id reply missing told =
    done_by (λ p. changes p change id) parts reply parts (λ rules. Err (NotFound (named.Shift id)))
    (λ rules. rw missing refl)
    (λ rules stands. (told, stands_at parts rules stands))
