-- Room for one more is what the plain cluster makes.
use Rattle.std.proofs.Common.{◌≡◌, ℕ, ◌+◌, ◌<◌, ◌≤◌, ◌==◌, ◌++◌, ◌∷◌, [], Bool, true, false, cond, not, List, length, filter, find, Option, Some, None, IsSome, is_some, Ok, Err, nat_lt, All, suc, refl, sym, ap, ◌∙◌, arith, eqb}
use Rattle.std.proofs.lemmas.Bool.{eq-eqb, eqb-true}
use Rattle.std.proofs.lemmas.Bool.Decides.{nat_tests}
use Rattle.std.specs.Option.{option_or}
use Rattle.std.proofs.lemmas.List.Elements.{All-filter}
use Rattle.std.proofs.lemmas.List.Folds.{find-append}
use Rattle.arc_ids.specs.declared.named_id.ShiftId.{ShiftId}
use Rattle.arc_data.specs.declared.practice.Run.{Run}
use Rattle.arc_data.specs.declared.shift.Shift.{Shift}
use Rattle.arc_plain.specs.State.{Plain}
use Rattle.arc_ids.specs.declared.named_id.ResourceId.{ResourceId}
use Rattle.arc_data.specs.declared.reply.Refusal.TheVariants.{Busy}
use Rattle.arc_data.specs.declared.shift.Kind.TheVariants.{Customer}
use Rattle.arc_plain.specs.Practice.{PlainPractices, interrupted, is_pending, outcome_at}
use Rattle.arc_practice.specs.Kept.{HaveStarted}
use Rattle.arc_plain.specs.Shifts.{active_of, is_active, new_shift, started, status_at}
use Rattle.arc_plain.specs.ZonalShifts.{first_over, first_run_over, forgets, most_shifts, with_room}
use Rattle.arc_state.specs.Room.{IsThere, forgotten_at, over_by, practices_without, shift_added, shifts_without}
use Rattle.arc_state.specs.declared.room.Forgotten.{Forgotten}
use Rattle.arc_state.specs.declared.room.Forgotten.TheVariants as first

-- ---- the plain state with room

forgets_by : (plain : Plain) (shift : Option Shift) (run : Option Run) →
    forgets plain shift run
    ≡ record plain { shifts = shifts_without (over_by shift run) plain.shifts; practices = practices_without (over_by shift run) plain.practices }
forgets_by plain None None = refl
forgets_by plain (Some shift) None = refl
forgets_by plain None (Some run) = refl
forgets_by plain (Some shift) (Some run) = by_order (nat_lt shift.id.0 run.id.0)
  where
    by_order : (b : Bool) →
        cond b (record plain { shifts = shifts_without (first.Shift shift.id) plain.shifts }) (record plain { practices = practices_without (first.Run run.id) plain.practices })
        ≡ record plain { shifts = shifts_without (cond b (first.Shift shift.id) (first.Run run.id)) plain.shifts; practices = practices_without (cond b (first.Shift shift.id) (first.Run run.id)) plain.practices }
    by_order true = refl
    by_order false = refl

pub room_is : (plain : Plain) →
    with_room plain
    ≡ record plain {
      shifts = shifts_without (forgotten_at plain.shifts plain.practices.runs plain.time) plain.shifts;
      practices = practices_without (forgotten_at plain.shifts plain.practices.runs plain.time) plain.practices;
    }
room_is plain = by_room (nat_lt (length plain.shifts + length plain.practices.runs) most_shifts)
  where
    by_room : (b : Bool) →
        cond b plain (forgets plain (first_over plain) (first_run_over plain))
        ≡ record plain {
          shifts = shifts_without (cond b first.Nothing (over_by (first_over plain) (first_run_over plain))) plain.shifts;
          practices = practices_without (cond b first.Nothing (over_by (first_over plain) (first_run_over plain))) plain.practices;
        }
    by_room true = refl
    by_room false = forgets_by plain (first_over plain) (first_run_over plain)

-- ---- what is forgotten is kept

-- what was found once is found by another test that it passes
pub found_again : {X : Type 0} (p q : X → Bool) (xs : List X) (x : X) → find p xs ≡ Some x → q x ≡ true → IsSome (find q xs)
found_again p q [] x found passes = absurd (cc)
found_again p q (y ∷ ys) x found passes = by_tests (q y) (p y) refl found (λ rest. found_again p q ys x rest passes)
  where
    by_tests : (a b : Bool) → q y ≡ a → cond b (Some y) (find p ys) ≡ Some x → (find p ys ≡ Some x → IsSome (find q ys)) →
        IsSome (cond a (Some y) (find q ys))
    by_tests true b is found rest = refl
    by_tests false true is found rest =
        let same : y ≡ x = cc in
        let other : q x ≡ false = ap q (sym same) ∙ is in
        absurd (cc)
    by_tests false false is found rest = rest found

-- what was found is found in a longer list
pub found_more : {X : Type 0} (q : X → Bool) (xs ys : List X) → IsSome (find q xs) → IsSome (find q (xs ++ ys))
found_more q xs ys found = rw (find-append q xs ys) (by_found (find q xs) found)
  where
    by_found : (o : Option _) → IsSome o → IsSome (option_or o (find q ys))
    by_found (Some x) found = refl
    by_found None found = absurd (cc)

-- what is forgotten of some lists stands in every list that has all of them
pub is_there : (shifts shifts' : List Shift) (runs runs' : List Run) (now : ℕ) →
    ((q : Shift → Bool) → IsSome (find q shifts) → IsSome (find q shifts')) →
    ((q : Run → Bool) → IsSome (find q runs) → IsSome (find q runs')) →
    IsThere (forgotten_at shifts runs now) shifts' runs'
is_there shifts shifts' runs runs' now more more_runs = by_room (nat_lt (length shifts + length runs) most_shifts)
  where
    shift_there : (s : Shift) → find (λ (s : Shift). not (is_active (status_at s now))) shifts ≡ Some s → IsSome (find (λ x. x.id.0 == s.id.0) shifts')
    shift_there s found = more (λ x. x.id.0 == s.id.0) (found_again (λ (s : Shift). not (is_active (status_at s now))) (λ x. x.id.0 == s.id.0) shifts s found (eq-eqb s.id.0 s.id.0 refl))

    run_there : (r : Run) → find (λ (r : Run). not (is_pending (outcome_at r now))) runs ≡ Some r → IsSome (find (λ x. x.id.0 == r.id.0) runs')
    run_there r found = more_runs (λ x. x.id.0 == r.id.0) (found_again (λ (r : Run). not (is_pending (outcome_at r now))) (λ x. x.id.0 == r.id.0) runs r found (eq-eqb r.id.0 r.id.0 refl))

    by_order : (b : Bool) (s : Shift) (r : Run) → find (λ (s : Shift). not (is_active (status_at s now))) shifts ≡ Some s →
        find (λ (r : Run). not (is_pending (outcome_at r now))) runs ≡ Some r →
        IsThere (cond b (first.Shift s.id) (first.Run r.id)) shifts' runs'
    by_order true s r found found' = shift_there s found
    by_order false s r found found' = run_there r found'

    by_found : (o : Option Shift) (o' : Option Run) → find (λ (s : Shift). not (is_active (status_at s now))) shifts ≡ o →
        find (λ (r : Run). not (is_pending (outcome_at r now))) runs ≡ o' → IsThere (over_by o o') shifts' runs'
    by_found None None a b = tt
    by_found (Some s) None a b = shift_there s a
    by_found None (Some r) a b = run_there r b
    by_found (Some s) (Some r) a b = by_order (nat_lt s.id.0 r.id.0) s r a b

    by_room : (b : Bool) → IsThere (cond b first.Nothing (over_by (find (λ (s : Shift). not (is_active (status_at s now))) shifts) (find (λ (r : Run). not (is_pending (outcome_at r now))) runs))) shifts' runs'
    by_room true = tt
    by_room false =
        by_found (find (λ (s : Shift). not (is_active (status_at s now))) shifts) (find (λ (r : Run). not (is_pending (outcome_at r now))) runs) refl refl

-- the runs that are left haven't started later
pub still_started : (f : Forgotten) (practices : PlainPractices) (now : ℕ) → HaveStarted practices.runs now →
    HaveStarted (practices_without f practices).runs now
still_started first.Nothing practices now begun = begun
still_started (first.Shift id) practices now begun = begun
still_started (first.Run id) practices now begun = All-filter (λ r. not (r.id.0 == id.0)) (λ r. r.start ≤ now) practices.runs begun

-- ---- one more and one less

-- what is dropped of a list that got one more was dropped before
pub dropped_first : {X : Type 0} (p : X → Bool) (xs : List X) (x : X) → p x ≡ true → filter p (xs ++ x ∷ []) ≡ filter p xs ++ x ∷ []
dropped_first p [] x stays = rw stays refl
dropped_first p (y ∷ ys) x stays = by_test (p y) (dropped_first p ys x stays)
  where
    by_test : (b : Bool) → filter p (ys ++ x ∷ []) ≡ filter p ys ++ x ∷ [] →
        cond b (y ∷ filter p (ys ++ x ∷ [])) (filter p (ys ++ x ∷ [])) ≡ cond b (y ∷ filter p ys) (filter p ys) ++ x ∷ []
    by_test true same = ap (λ l. y ∷ l) same
    by_test false same = same

-- a key that is found is below what all are below
pub id_below : {X : Type 0} (key : X → ℕ) (xs : List X) (id n : ℕ) → All (λ x. key x < n) xs → IsSome (find (λ x. key x == id) xs) → id < n
id_below key [] id n above found = absurd (cc)
id_below key (y ∷ ys) id n above found =
    by_test (key y == id) refl found (id_below key ys id n (λ k d within. above (suc k) d (omega arith)))
  where
    by_test : (b : Bool) → eqb (key y) id ≡ b → IsSome (cond b (Some y) (find (λ x. key x == id) ys)) →
        (IsSome (find (λ x. key x == id) ys) → id < n) → id < n
    by_test true is found rest = let same = eqb-true (key y) id is in omega (arith, same, above 0 y (omega arith))
    by_test false is found rest = rest found

-- what is forgotten of the shifts with a new one is forgotten of the others
pub new_stays : (f : Forgotten) (shifts : List Shift) (runs : List Run) (new : Shift) → IsThere f shifts runs → All (λ s. s.id.0 < new.id.0) shifts →
    shifts_without f (shifts ++ new ∷ []) ≡ shifts_without f shifts ++ new ∷ []
new_stays first.Nothing shifts runs new there above = refl
new_stays (first.Run id) shifts runs new there above = refl
new_stays (first.Shift id) shifts runs new there above =
    let below = id_below (λ (s : Shift). s.id.0) shifts id.0 new.id.0 above there in
    let other : eqb new.id.0 id.0 ≡ false = grind (arith, nat_tests) in
    dropped_first (λ s. not (s.id.0 == id.0)) shifts new (ap not other)

-- ---- a shift that is added

pub shift_adds : (shifts : List Shift) (practices : PlainPractices) (new : Shift) (now : ℕ) → is_some (active_of shifts new.resource now) ≡ false →
    shift_added shifts practices new now
    ≡ Ok (
      shifts_without (forgotten_at shifts practices.runs now) shifts ++ new ∷ [],
      interrupted (practices_without (forgotten_at shifts practices.runs now) practices) new.resource now,
    )
unfolding shift_added
shift_adds shifts practices new now free = rw free refl

-- what a start leaves was free to start
pub start_was_free : (shifts left : List Shift) (id : ShiftId) (resource : ResourceId) (zone : List ℕ) (minutes : ℕ) (comment : List ℕ) (now : ℕ) →
    started shifts id resource zone minutes comment now ≡ Ok left →
    (is_some (active_of shifts resource now) ≡ false) × (left ≡ shifts ++ new_shift id resource zone minutes comment now ∷ [])
unfolding started
start_was_free shifts left id resource zone minutes comment now done = by_test (is_some (active_of shifts resource now)) done
  where
    by_test : (b : Bool) → cond b (Err (Busy Customer)) (Ok (shifts ++ new_shift id resource zone minutes comment now ∷ [])) ≡ Ok left →
        (b ≡ false) × (left ≡ shifts ++ new_shift id resource zone minutes comment now ∷ [])
    by_test true done = absurd (cc)
    by_test false done = (refl, cc)
