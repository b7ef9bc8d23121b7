-- A practice run that was interrupted, as it is found then.
use Rattle.std.proofs.Common.{◌≡◌, ◌==◌, ◌&&◌, ◌+◌, ℕ, Bool, true, false, cond, nat_le, nat_lt, Option, Some, None, Ok, Err, refl, sym, ap, arith, ◌∙◌}
use Rattle.std.proofs.lemmas.Bool.Decides.{nat_tests}
use Rattle.std.specs.Option.{option_map}
use Rattle.arc_ids.specs.declared.named_id.ShiftId.{ShiftId}
use Rattle.arc_data.specs.declared.practice.Ending.{Ending}
use Rattle.arc_data.specs.declared.practice.Ending.TheVariants.{Alarm, Interrupt}
use Rattle.arc_data.specs.declared.practice.Run.{Run}
use Rattle.arc_data.specs.declared.reply.Body.TheVariants as body
use Rattle.arc_data.specs.declared.reply.Named.TheVariants as named
use Rattle.arc_data.specs.declared.reply.Refusal.TheVariants.{NotActive, NotFound}
use Rattle.arc_data.specs.declared.reply.Reply.{Reply}
use Rattle.arc_data.specs.declared.reply.Reply.TheVariants.{Done, Refused}
use Rattle.arc_data.specs.declared.shift.Outcome.{Outcome}
use Rattle.arc_data.specs.declared.shift.Outcome.TheVariants.{Pending, Succeeded, Interrupted}
use Rattle.arc_data.specs.declared.shift.ShiftItem.{ShiftItem}
use Rattle.arc_data.specs.declared.shift.Status.TheVariants.{Canceled}
use Rattle.arc_plain.specs.Practice.{PlainPractices, after_event, canceled_found, ended_by, ended_where, is_pending, outcome_at, outcome_by, run_canceled, run_ms, run_of, run_status, unended_at}
use Rattle.arc_plain.specs.PracticeRuns.{cancel_practice_run, run_item}
use Rattle.arc_state.specs.declared.parts.Parts.{Parts}
use Rattle.arc_state.specs.Standing.{Does}
use Rattle.arc_state.proofs.Renewed.{find_map, of_found}
use Rattle.arc_state.proofs.Stands.{done_by, plain_at, stands_at}

-- ---- an event that comes in time

-- the 30 minutes of a pending run aren't over
unended_in_time : (start now : ℕ) → is_pending (unended_at start now) ≡ true → nat_lt now (start + run_ms) ≡ true
unended_in_time start now pending = by_over (nat_le (start + run_ms) now) refl pending
  where
    by_over : (b : Bool) → nat_le (start + run_ms) now ≡ b → is_pending (cond b Succeeded Pending) ≡ true → nat_lt now (start + run_ms) ≡ true
    by_over true is pending = absurd (cc)
    by_over false is pending = grind (arith, nat_tests)

in_time : (ended : Option (Ending × ℕ)) (start now : ℕ) → is_pending (outcome_by ended start now) ≡ true → nat_lt now (start + run_ms) ≡ true
in_time None start now pending = unended_in_time start now pending
in_time (Some event) start now pending = by_event (nat_lt event.1 (start + run_ms)) event.0 pending
  where
    by_event : (early : Bool) (e : Ending) → is_pending (cond early (ended_by e) (unended_at start now)) ≡ true → nat_lt now (start + run_ms) ≡ true
    by_event true Alarm pending = absurd (cc)
    by_event true Interrupt pending = absurd (cc)
    by_event false e pending = unended_in_time start now pending

-- a pending run that is interrupted now has that outcome
pub is_interrupted : (r : Run) (now : ℕ) → is_pending (outcome_at r now) ≡ true →
    outcome_at (record r { ended = Some (Interrupt, now) }) now ≡ Interrupted
is_interrupted r now pending = ap (λ (b : Bool). cond b Interrupted (unended_at r.start now)) (in_time r.ended r.start now pending)

-- ---- the row of a cancel

-- a cancel that is made
canceled_inside : (practices left : PlainPractices) (id : ShiftId) (now : ℕ) (r : Run) → canceled_found practices id now (Some r) ≡ Ok left →
    (is_pending (outcome_at r now) ≡ true) × (after_event (λ x. x.id.0 == id.0) Interrupt now practices ≡ left)
canceled_inside practices left id now r done = by_test (is_pending (outcome_at r now)) done
  where
    by_test : (b : Bool) → cond b (Ok (after_event (λ x. x.id.0 == id.0) Interrupt now practices)) (Err (NotActive (run_status (outcome_at r now)))) ≡ Ok left →
        (b ≡ true) × (after_event (λ x. x.id.0 == id.0) Interrupt now practices ≡ left)
    by_test true done = (refl, cc)
    by_test false done = absurd (cc)

-- the run is found as it is then
found_canceled : (practices left : PlainPractices) (id : ShiftId) (now : ℕ) (r : Run) → run_of practices id ≡ Some r →
    run_canceled practices id now ≡ Ok left →
    (is_pending (outcome_at r now) ≡ true) × (run_of left id ≡ Some (record r { ended = Some (Interrupt, now) }))
unfolding run_canceled
found_canceled practices left id now r found done =
    let inside = canceled_inside practices left id now r (ap (canceled_found practices id now) (sym found) ∙ done) in
    let own = (of_found (λ x. Unit {0}) (λ (x : Run). x.id.0 == id.0) practices.runs r (λ k d within. tt) found).1 in
    let end : Run → Run = ended_where (λ x. x.id.0 == id.0) Interrupt now in (
      inside.0,
      ap (λ (p : PlainPractices). run_of p id) (sym inside.1)
          ∙ find_map (λ x. x.id.0 == id.0) end (λ x. by_end ((x.id.0 == id.0) && is_pending (outcome_at x now)) x) practices.runs
          ∙ ap (option_map end) found
          ∙ ap Some (by_tests (r.id.0 == id.0) (is_pending (outcome_at r now)) own inside.0),
    )
  where
    by_end : (ends : Bool) (x : Run) → ((cond ends (record x { ended = Some (Interrupt, now) }) x).id.0 == id.0) ≡ (x.id.0 == id.0)
    by_end true x = refl
    by_end false x = refl

    by_tests : (a b : Bool) → a ≡ true → b ≡ true → cond (a && b) (record r { ended = Some (Interrupt, now) }) r ≡ record r { ended = Some (Interrupt, now) }
    by_tests a b own pending = rw (own, pending) refl

-- a pending run is cancelled
pub cancel_does : (parts : Parts) (id : ShiftId) (r : Run) (left : PlainPractices) (item : ShiftItem) →
    run_of parts.practices id ≡ Some r → item ≡ run_item r parts.time → run_canceled parts.practices id parts.time ≡ Ok left →
    Does (λ plain. cancel_practice_run plain id) parts (Done (body.Shift (record item { status = Canceled; outcome = Some Interrupted }))) (record parts { practices = left })
unfolding cancel_practice_run
cancel_does parts id r left item found shown done =
    let now = parts.time in
    let r' : Run = record r { ended = Some (Interrupt, now) } in
    let there = found_canceled parts.practices left id now r found done in
    done_by (λ p. cancel_practice_run p id) parts (Done (body.Shift (record item { status = Canceled; outcome = Some Interrupted }))) (record parts { practices = left })
    (λ rules. Ok (body.Shift (run_item r' now), record (plain_at parts rules) { practices = left }))
    (λ rules. rw (done, there.1) refl)
    (λ rules stands. (
      ap (λ (i : ShiftItem). Done (body.Shift (record i { status = Canceled; outcome = Some Interrupted }))) shown
          ∙ ap (λ (o : Outcome). Done (body.Shift (record (run_item r now) { status = run_status o; outcome = Some o }))) (sym (is_interrupted r now there.0)),
      record { time = refl; count = refl; panels = refl; rules = stands; resources = refl; shifts = refl; practices = refl; shifts_drawn = refl },
    ))

-- there is no such run
missing_run : (practices : PlainPractices) (id : ShiftId) (now : ℕ) → run_of practices id ≡ None → run_canceled practices id now ≡ Err (NotFound (named.Shift id))
unfolding run_canceled
missing_run practices id now missing = ap (canceled_found practices id now) missing

pub missing_does : (parts : Parts) (id : ShiftId) (reply : Reply) → run_of parts.practices id ≡ None → reply ≡ Refused (NotFound (named.Shift id)) →
    Does (λ plain. cancel_practice_run plain id) parts reply parts
unfolding cancel_practice_run
missing_does parts id reply missing told =
    done_by (λ p. cancel_practice_run p id) parts reply parts (λ rules. Err (NotFound (named.Shift id)))
    (λ rules. rw (missing_run parts.practices id parts.time missing) refl)
    (λ rules stands. (told, stands_at parts rules stands))
