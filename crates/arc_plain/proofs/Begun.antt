-- Shifts and practice runs that are kept have drawn identifiers, and none begins later than list time.
use Rattle.std.proofs.Common.{◌≡◌, ◌+◌, ◌≤◌, ◌==◌, ◌++◌, Bool, true, false, cond, ℕ, List, [], ◌∷◌, length, map, not, nat_lt, Option, Some, None, Ok, Err, All, refl, arith}
use Rattle.std.proofs.lemmas.List.Elements.{All-filter, All-map, All-push}
use Rattle.arc_ids.specs.declared.named_id.ResourceId.{ResourceId}
use Rattle.arc_ids.specs.declared.named_id.ShiftId.{ShiftId}
use Rattle.arc_data.specs.declared.practice.Ending.{Ending}
use Rattle.arc_data.specs.declared.practice.Ending.TheVariants.{Interrupt}
use Rattle.arc_data.specs.declared.practice.BlockCause.{BlockCause}
use Rattle.arc_data.specs.declared.practice.PracticeConfig.{PracticeConfig}
use Rattle.arc_data.specs.declared.practice.Run.{Run}
use Rattle.arc_data.specs.declared.reply.Refusal.{Refusal}
use Rattle.arc_data.specs.declared.shift.Shift.{Shift}
use Rattle.arc_plain.specs.State.{Plain}
use Rattle.arc_plain.specs.Laws.{AreBegun}
use Rattle.arc_plain.specs.Shifts.{canceled, canceled_at, changed, is_active, renewed, shift_of, status_at, updated, with_changed}
use Rattle.arc_plain.specs.Practice.{PlainPractices, after_event, cause_at, ended_where, is_pending, new_run, outcome_at, run_canceled, run_of, started_by, started_with, canceled_found}
use Rattle.arc_plain.specs.ZonalShifts.{forgets, forgets_run, forgets_shift, first_over, first_run_over, most_shifts, with_room, with_shift}

-- ---- one list

-- begun by a list time, with an identifier that was drawn
abbrev pub IsShiftBegun : ℕ → ℕ → Shift → Type 0
IsShiftBegun drawn now s = (s.id.0 ≤ drawn) × (s.start ≤ now)

abbrev pub IsRunBegun : ℕ → ℕ → Run → Type 0
IsRunBegun drawn now r = (r.id.0 ≤ drawn) × (r.start ≤ now)

pub shifts_later : (xs : List Shift) (d d' t t' : ℕ) → All (IsShiftBegun d t) xs → d ≤ d' → t ≤ t' → All (IsShiftBegun d' t') xs
shifts_later xs d d' t t' all more later k x within = (omega (arith, (all k x within).0), omega (arith, (all k x within).1))

pub runs_later : (xs : List Run) (d d' t t' : ℕ) → All (IsRunBegun d t) xs → d ≤ d' → t ≤ t' → All (IsRunBegun d' t') xs
runs_later xs d d' t t' all more later k x within = (omega (arith, (all k x within).0), omega (arith, (all k x within).1))

-- one of two that begin alike
shift_or : (b : Bool) (s' s : Shift) (d t : ℕ) → s'.id.0 ≡ s.id.0 → s'.start ≡ s.start → IsShiftBegun d t s → IsShiftBegun d t (cond b s' s)
shift_or true s' s d t same same' begun = (omega (arith, begun.0), omega (arith, begun.1))
shift_or false s' s d t same same' begun = begun

run_or : (b : Bool) (r' r : Run) (d t : ℕ) → r'.id.0 ≡ r.id.0 → r'.start ≡ r.start → IsRunBegun d t r → IsRunBegun d t (cond b r' r)
run_or true r' r d t same same' begun = (omega (arith, begun.0), omega (arith, begun.1))
run_or false r' r d t same same' begun = begun

-- a change that keeps identifier and start
changed_begun : (change : Shift → Shift) (id : ShiftId) (xs : List Shift) (d t : ℕ) →
    ((s : Shift) → (change s).id.0 ≡ s.id.0) → ((s : Shift) → (change s).start ≡ s.start) →
    All (IsShiftBegun d t) xs → All (IsShiftBegun d t) (with_changed change id xs)
changed_begun change id xs d t same same' all =
    All-map (IsShiftBegun d t) (λ s. cond (s.id.0 == id.0) (change s) s) xs
    (λ k x within. shift_or _ _ _ d t (same _) (same' _) (all k x within))

-- an event
pub event_begun : (affects : Run → Bool) (ending : Ending) (now : ℕ) (xs : List Run) (d t : ℕ) →
    All (IsRunBegun d t) xs → All (IsRunBegun d t) (map (ended_where affects ending now) xs)
event_begun affects ending now xs d t all =
    All-map (IsRunBegun d t) (ended_where affects ending now) xs
    (λ k x within. run_or _ _ _ d t refl refl (all k x within))

-- ---- what a change of an active shift leaves

changed_is : (b : Bool) (ys zs : List Shift) (why : Refusal) → cond b (Ok ys) (Err why) ≡ Ok zs → zs ≡ ys
changed_is true ys zs why is = cc
changed_is false ys zs why is = cc

changed_found : (change : Shift → Shift) (xs ys : List Shift) (id : ShiftId) (now : ℕ) (o : Option Shift) →
    changed change xs id now o ≡ Ok ys → ys ≡ with_changed change id xs
changed_found change xs ys id now None is = cc
changed_found change xs ys id now (Some s) is = changed_is (is_active (status_at s now)) _ ys _ is

pub updated_begun : (xs ys : List Shift) (id : ShiftId) (comment : Option (List ℕ)) (minutes : Option ℕ) (now d t : ℕ) →
    updated xs id comment minutes now ≡ Ok ys → All (IsShiftBegun d t) xs → All (IsShiftBegun d t) ys
unfolding updated
updated_begun xs ys id comment minutes now d t is all =
    rw (changed_found (renewed comment minutes now) xs ys id now (shift_of xs id) is)
    (changed_begun (renewed comment minutes now) id xs d t (λ s. refl) (λ s. refl) all)

pub canceled_begun : (xs ys : List Shift) (id : ShiftId) (now d t : ℕ) →
    canceled xs id now ≡ Ok ys → All (IsShiftBegun d t) xs → All (IsShiftBegun d t) ys
unfolding canceled
canceled_begun xs ys id now d t is all =
    rw (changed_found (canceled_at now) xs ys id now (shift_of xs id) is)
    (changed_begun (canceled_at now) id xs d t (λ s. refl) (λ s. refl) all)

-- ---- what a cancelled run leaves

run_is : (b : Bool) (p q : PlainPractices) (why : Refusal) → cond b (Ok p) (Err why) ≡ Ok q → q ≡ p
run_is true p q why is = cc
run_is false p q why is = cc

run_found : (p q : PlainPractices) (id : ShiftId) (now : ℕ) (o : Option Run) →
    canceled_found p id now o ≡ Ok q → q ≡ after_event (λ r. r.id.0 == id.0) Interrupt now p
run_found p q id now None is = cc
run_found p q id now (Some r) is = run_is (is_pending (outcome_at r now)) _ q _ is

pub run_canceled_begun : (p q : PlainPractices) (id : ShiftId) (now d t : ℕ) →
    run_canceled p id now ≡ Ok q → All (IsRunBegun d t) p.runs → All (IsRunBegun d t) q.runs
unfolding run_canceled
run_canceled_begun p q id now d t is all =
    rw (run_found p q id now (run_of p id) is) (event_begun (λ r. r.id.0 == id.0) Interrupt now p.runs d t all)

-- ---- what a started run leaves

started_is : (o : Option BlockCause) (p q : PlainPractices) (run : Run) →
    started_by o p run ≡ Ok q → q.runs ≡ p.runs ++ run ∷ []
started_is None p q run is = let same : q ≡ record p { runs = p.runs ++ run ∷ [] } = cc in rw same refl
started_is (Some cause) p q run is = cc

pub run_new : (o : Option PracticeConfig) (p q : PlainPractices) (id : ShiftId) (resource : ResourceId) (zone comment : List ℕ) (now : ℕ) →
    started_with o p id resource zone comment now ≡ Ok q →
    (alarms : List (List ℕ)) × (q.runs ≡ p.runs ++ new_run id resource zone comment now alarms ∷ [])
run_new None p q id resource zone comment now is = cc
run_new (Some config) p q id resource zone comment now is =
    (config.outcome_alarms, started_is (cause_at config p.red now) p q (new_run id resource zone comment now config.outcome_alarms) is)

-- ---- rows

-- shifts, runs and the two numbers are those that were
pub record IsSameShifts (plain after : Plain) : Type 0 where
  pub shifts : after.shifts ≡ plain.shifts
  pub runs : after.practices.runs ≡ plain.practices.runs
  pub drawn : after.shifts_drawn ≡ plain.shifts_drawn
  pub time : after.time ≡ plain.time

pub same_begun : (plain after : Plain) → AreBegun plain → IsSameShifts plain after → AreBegun after
same_begun plain after begun same = record {
  shifts = rw same.shifts (shifts_later plain.shifts _ _ _ _ begun.shifts (omega (arith, same.drawn)) (omega (arith, same.time)));
  runs = rw same.runs (runs_later plain.practices.runs _ _ _ _ begun.runs (omega (arith, same.drawn)) (omega (arith, same.time)));
}

-- other practices
pub other_runs : (plain : Plain) (practices : PlainPractices) → AreBegun plain →
    All (IsRunBegun plain.shifts_drawn plain.time) practices.runs → AreBegun (record plain { practices = practices })
other_runs plain practices begun all = record { shifts = begun.shifts; runs = all }

-- ---- room

begun_or : (b : Bool) (p q : Plain) → AreBegun p → AreBegun q → AreBegun (cond b p q)
begun_or true p q is is' = is
begun_or false p q is is' = is'

shift_forgotten : (plain : Plain) (id : ShiftId) → AreBegun plain → AreBegun (forgets_shift plain id)
shift_forgotten plain id begun = record {
  shifts = All-filter (λ s. not (s.id.0 == id.0)) (IsShiftBegun plain.shifts_drawn plain.time) plain.shifts begun.shifts;
  runs = begun.runs;
}

run_forgotten : (plain : Plain) (id : ShiftId) → AreBegun plain → AreBegun (forgets_run plain id)
run_forgotten plain id begun = record {
  shifts = begun.shifts;
  runs = All-filter (λ r. not (r.id.0 == id.0)) (IsRunBegun plain.shifts_drawn plain.time) plain.practices.runs begun.runs;
}

forgets_begun : (plain : Plain) (s : Option Shift) (r : Option Run) → AreBegun plain → AreBegun (forgets plain s r)
forgets_begun plain None None begun = begun
forgets_begun plain (Some s) None begun = shift_forgotten plain s.id begun
forgets_begun plain None (Some r) begun = run_forgotten plain r.id begun
forgets_begun plain (Some s) (Some r) begun =
    begun_or (nat_lt s.id.0 r.id.0) _ _ (shift_forgotten plain s.id begun) (run_forgotten plain r.id begun)

pub room_begun : (plain : Plain) → AreBegun plain → AreBegun (with_room plain)
room_begun plain begun =
    begun_or (nat_lt (length plain.shifts + length plain.practices.runs) most_shifts) _ _ begun
    (forgets_begun plain (first_over plain) (first_run_over plain) begun)

-- ---- a new shift, a new run

pub new_shift_begun : (plain : Plain) (s : Shift) → AreBegun plain → s.id.0 ≡ plain.shifts_drawn + 1 → s.start ≡ plain.time →
    AreBegun (with_shift plain s)
new_shift_begun plain s begun next now = record {
  shifts = All-push (IsShiftBegun (plain.shifts_drawn + 1) plain.time) plain.shifts s
      (shifts_later plain.shifts _ _ _ _ begun.shifts (omega arith) (omega arith)) (omega (arith, next), omega (arith, now));
  runs = runs_later _ _ _ _ _ (event_begun (λ r. r.resource.0 == s.resource.0) Interrupt plain.time plain.practices.runs _ _ begun.runs)
      (omega arith) (omega arith);
}

pub new_run_begun : (plain : Plain) (q : PlainPractices) (n : ℕ) (run : Run) → AreBegun plain → n ≡ plain.shifts_drawn + 1 →
    q.runs ≡ plain.practices.runs ++ run ∷ [] → run.id.0 ≡ n → run.start ≡ plain.time →
    AreBegun (record plain { practices = q; shifts_drawn = n })
new_run_begun plain q n run begun next is own now = record {
  shifts = shifts_later plain.shifts _ _ _ _ begun.shifts (omega (arith, next)) (omega arith);
  runs = rw is (All-push (IsRunBegun n plain.time) plain.practices.runs run
      (runs_later plain.practices.runs _ _ _ _ begun.runs (omega (arith, next)) (omega arith)) (omega (arith, own), omega (arith, now)));
}
