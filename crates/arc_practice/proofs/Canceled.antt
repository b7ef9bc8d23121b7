-- Why a run isn't cancelled.
use Rattle.std.proofs.Common.{◌≡◌, ◌≢◌, ◌==◌, ℕ, Bool, false, cond, Some, Ok, Err, refl, ap, ◌∙◌}
use Rattle.arc_ids.specs.declared.named_id.ShiftId.{ShiftId}
use Rattle.arc_data.specs.declared.practice.Ending.TheVariants.{Interrupt}
use Rattle.arc_data.specs.declared.practice.Run.{Run}
use Rattle.arc_data.specs.declared.reply.Refusal.TheVariants.{NotActive}
use Rattle.arc_data.specs.declared.shift.Outcome.{Outcome}
use Rattle.arc_data.specs.declared.shift.Outcome.TheVariants.{Pending, Succeeded, Failed, Interrupted}
use Rattle.arc_plain.specs.Practice.{PlainPractices, after_event, canceled_found, is_pending, outcome_at, run_canceled, run_of, run_status}

-- what isn't pending is over
pub over_unless : (o : Outcome) → o ≢ Pending → is_pending o ≡ false
over_unless Pending other = absurd (other refl)
over_unless Succeeded other = refl
over_unless Failed other = refl
over_unless Interrupted other = refl

if_no : {A : Type 0} (b : Bool) (x y : A) → b ≡ false → cond b x y ≡ y
if_no b x y fails = rw fails refl

-- a run that is over isn't cancelled
pub not_active : (p : PlainPractices) (id : ShiftId) (now : ℕ) (run : Run) → run_of p id ≡ Some run → outcome_at run now ≢ Pending →
    run_canceled p id now ≡ Err (NotActive (run_status (outcome_at run now)))
unfolding run_canceled
not_active p id now run found over =
    ap (canceled_found p id now) found
    ∙ if_no (is_pending (outcome_at run now)) (Ok (after_event (λ r. r.id.0 == id.0) Interrupt now p))
    (Err (NotActive (run_status (outcome_at run now)))) (over_unless (outcome_at run now) over)
