-- A practice run that starts, and what is forgotten to make room for it.
use Rattle.std.proofs.Common.{◌≡◌, ℕ, ◌<◌, ◌==◌, ◌++◌, ◌∷◌, [], false, not, List, filter, Option, Some, None, Ok, Err, All, refl, sym, ap, ◌∙◌, arith, eqb}
use Rattle.std.proofs.lemmas.Bool.Decides.{nat_tests}
use Rattle.arc_ids.specs.declared.named_id.ResourceId.{ResourceId}
use Rattle.arc_ids.specs.declared.named_id.ShiftId.{ShiftId}
use Rattle.arc_data.specs.declared.part_end.PartEnd.{PartEnd}
use Rattle.arc_data.specs.declared.part_end.PartEnd.TheVariants.{Refused, Memory}
use Rattle.arc_data.specs.declared.practice.BlockCause.{BlockCause}
use Rattle.arc_data.specs.declared.practice.PracticeConfig.{PracticeConfig}
use Rattle.arc_data.specs.declared.practice.Run.{Run}
use Rattle.arc_data.specs.declared.reply.Refusal.{Refusal}
use Rattle.arc_data.specs.declared.shift.Shift.{Shift}
use Rattle.arc_plain.specs.Part.{Does}
use Rattle.arc_plain.specs.Practice.{PlainPractices, cause_at, config_of, new_run, run_started, started_by, started_with}
use Rattle.arc_state.specs.Room.{IsThere, forgotten_at, practices_without, run_added, shifts_without}
use Rattle.arc_state.specs.declared.room.Forgotten.{Forgotten}
use Rattle.arc_state.specs.declared.room.Forgotten.TheVariants as first
use Rattle.arc_state.proofs.Rooms.{dropped_first, id_below, is_there}

-- ---- the same start beside other runs

-- with other runs
abbrev pub with_runs : PlainPractices → List Run → PlainPractices
with_runs practices runs = record practices { runs = runs }

-- a run that starts would start beside other runs too
pub start_beside : (practices left : PlainPractices) (runs : List Run) (id : ShiftId) (resource : ResourceId) (zone comment : List ℕ) (now : ℕ) →
    run_started practices id resource zone comment now ≡ Ok left →
    (new : Run) × (new.id.0 ≡ id.0) × (left ≡ with_runs practices (practices.runs ++ new ∷ []))
    × (run_started (with_runs practices runs) id resource zone comment now ≡ Ok (with_runs practices (runs ++ new ∷ [])))
unfolding run_started
start_beside practices left runs id resource zone comment now done = by_config (config_of practices resource) done
  where
    by_cause : (cause : Option BlockCause) (run : Run) → run.id.0 ≡ id.0 → started_by cause practices run ≡ Ok left →
        (new : Run) × (new.id.0 ≡ id.0) × (left ≡ with_runs practices (practices.runs ++ new ∷ []))
        × (started_by cause (with_runs practices runs) run ≡ Ok (with_runs practices (runs ++ new ∷ [])))
    by_cause None run own done =
        let same : with_runs practices (practices.runs ++ run ∷ []) ≡ left = cc in
        (run, own, sym same, refl)
    by_cause (Some cause) run own done = absurd (cc)

    by_config : (o : Option PracticeConfig) → started_with o practices id resource zone comment now ≡ Ok left →
        (new : Run) × (new.id.0 ≡ id.0) × (left ≡ with_runs practices (practices.runs ++ new ∷ []))
        × (started_with o (with_runs practices runs) id resource zone comment now ≡ Ok (with_runs practices (runs ++ new ∷ [])))
    by_config None done = absurd (cc)
    by_config (Some config) done =
        by_cause (cause_at config practices.red now) (new_run id resource zone comment now config.outcome_alarms) refl done

-- a start that is refused would be refused beside other runs too
stop_beside : (practices : PlainPractices) (runs : List Run) (id : ShiftId) (resource : ResourceId) (zone comment : List ℕ) (now : ℕ) (refusal : Refusal) →
    run_started practices id resource zone comment now ≡ Err refusal →
    run_started (with_runs practices runs) id resource zone comment now ≡ Err refusal
unfolding run_started
stop_beside practices runs id resource zone comment now refusal done = by_config (config_of practices resource) done
  where
    by_cause : (cause : Option BlockCause) (run : Run) → started_by cause practices run ≡ Err refusal →
        started_by cause (with_runs practices runs) run ≡ Err refusal
    by_cause None run done = absurd (cc)
    by_cause (Some cause) run done = done

    by_config : (o : Option PracticeConfig) → started_with o practices id resource zone comment now ≡ Err refusal →
        started_with o (with_runs practices runs) id resource zone comment now ≡ Err refusal
    by_config None done = done
    by_config (Some config) done =
        by_cause (cause_at config practices.red now) (new_run id resource zone comment now config.outcome_alarms) done

-- ---- what is forgotten of the runs

-- the runs without it
abbrev pub runs_without : Forgotten → List Run → List Run
runs_without first.Nothing runs = runs
runs_without (first.Shift id) runs = runs
runs_without (first.Run id) runs = filter (λ r. not (r.id.0 == id.0)) runs

without_is : (f : Forgotten) (practices : PlainPractices) → practices_without f practices ≡ with_runs practices (runs_without f practices.runs)
without_is first.Nothing practices = refl
without_is (first.Shift id) practices = refl
without_is (first.Run id) practices = refl

-- what is forgotten of the runs with a new one is forgotten of the others
new_run_stays : (f : Forgotten) (shifts : List Shift) (runs : List Run) (new : Run) → IsThere f shifts runs → All (λ r. r.id.0 < new.id.0) runs →
    runs_without f (runs ++ new ∷ []) ≡ runs_without f runs ++ new ∷ []
new_run_stays first.Nothing shifts runs new there above = refl
new_run_stays (first.Shift id) shifts runs new there above = refl
new_run_stays (first.Run id) shifts runs new there above =
    let below = id_below (λ (r : Run). r.id.0) runs id.0 new.id.0 above there in
    let other : eqb new.id.0 id.0 ≡ false = grind (arith, nat_tests) in
    dropped_first (λ r. not (r.id.0 == id.0)) runs new (ap not other)

-- ---- a run that is added

-- a run that starts, where something is forgotten then
pub run_adds : (shifts : List Shift) (practices left : PlainPractices) (id : ShiftId) (resource : ResourceId) (zone comment : List ℕ) (now : ℕ) →
    All (λ r. r.id.0 < id.0) practices.runs → run_started practices id resource zone comment now ≡ Ok left →
    run_added shifts practices id resource zone comment now
    ≡ Ok (shifts_without (forgotten_at shifts practices.runs now) shifts, practices_without (forgotten_at shifts practices.runs now) left)
unfolding run_added
run_adds shifts practices left id resource zone comment now above done =
    let f : Forgotten = forgotten_at shifts practices.runs now in
    let beside = start_beside practices left (runs_without f practices.runs) id resource zone comment now done in
    let above_all : All (λ r. r.id.0 < beside.0.id.0) practices.runs = λ k d within. omega (arith, above k d within, beside.1) in
    let there = is_there shifts shifts practices.runs practices.runs now (λ q h. h) (λ q h. h) in
    let stays : with_runs practices (runs_without f practices.runs ++ beside.0 ∷ []) ≡ practices_without f left =
    ap (with_runs practices) (sym (new_run_stays f shifts practices.runs beside.0 there above_all))
    ∙ sym (without_is f (with_runs practices (practices.runs ++ beside.0 ∷ [])))
    ∙ ap (practices_without f) (sym beside.2) in
    let starts : run_started (practices_without f practices) id resource zone comment now ≡ Ok (practices_without f left) =
    ap (λ (p : PlainPractices). run_started p id resource zone comment now) (without_is f practices)
    ∙ beside.3
    ∙ ap (λ (p : PlainPractices). Ok p) stays in
    rw starts refl

-- a start that ends badly
pub run_stops : (shifts : List Shift) (practices left : PlainPractices) (id : ShiftId) (resource : ResourceId) (zone comment : List ℕ) (now : ℕ) (e : PartEnd) →
    Does {A = Unit {0}} (run_started practices id resource zone comment now) (Err e) practices left →
    Does {A = Unit {0}} (run_added shifts practices id resource zone comment now) (Err e) (shifts, practices) (shifts, left)
unfolding run_added
run_stops shifts practices left id resource zone comment now (Refused refusal) does =
    let f = forgotten_at shifts practices.runs now in
    let stopped : run_started (practices_without f practices) id resource zone comment now ≡ Err refusal =
    ap (λ (p : PlainPractices). run_started p id resource zone comment now) (without_is f practices)
    ∙ stop_beside practices (runs_without f practices.runs) id resource zone comment now refusal does.0 in
    (rw stopped refl, ap (λ (p : PlainPractices). (shifts, p)) does.1)
run_stops shifts practices left id resource zone comment now Memory does = ap (λ (p : PlainPractices). (shifts, p)) does
