-- What is forgotten to make room for one more shift or practice run.
use Rattle.std.specs.Prelude.{ℕ, ◌+◌, ◌++◌, ◌==◌, nat_lt, List, [], ◌∷◌, length, find, not, Option, Some, None, IsSome, is_some, Result, Ok, Err, if◌then◌else◌}
use Rattle.arc_ids.specs.declared.named_id.ResourceId.{ResourceId}
use Rattle.arc_ids.specs.declared.named_id.ShiftId.{ShiftId}
use Rattle.arc_data.specs.declared.practice.Run.{Run}
use Rattle.arc_data.specs.declared.reply.Body.{Body}
use Rattle.arc_data.specs.declared.reply.Body.TheVariants as body
use Rattle.arc_data.specs.declared.reply.Refusal.{Refusal}
use Rattle.arc_data.specs.declared.reply.Refusal.TheVariants.{Busy}
use Rattle.arc_data.specs.declared.shift.Kind.TheVariants.{Customer}
use Rattle.arc_data.specs.declared.shift.Shift.{Shift}
use Rattle.arc_plain.specs.Rows.{◌>>=◌}
use Rattle.arc_plain.specs.State.{Effect, Plain, next_shift}
use Rattle.arc_plain.specs.Practice.{PlainPractices, interrupted, is_pending, outcome_at, run_started, without_run}
use Rattle.arc_plain.specs.PracticeRuns.{new_run_item}
use Rattle.arc_plain.specs.Shifts.{active_of, is_active, status_at, without_shift}
use Rattle.arc_plain.specs.ZonalShifts.{most_shifts}
use Rattle.arc_state.specs.declared.room.Forgotten.{Forgotten}
use Rattle.arc_state.specs.declared.room.Forgotten.TheVariants as first

-- that of a shift and a practice run which has the lesser identifier
abbrev pub over_by : Option Shift → Option Run → Forgotten
over_by None None = first.Nothing
over_by (Some shift) None = first.Shift shift.id
over_by None (Some run) = first.Run run.id
over_by (Some shift) (Some run) = if nat_lt shift.id.0 run.id.0 then first.Shift shift.id else first.Run run.id

-- nothing, where there is room; else what is over and has the least identifier
abbrev pub forgotten_at : List Shift → List Run → ℕ → Forgotten
forgotten_at shifts runs now =
    if nat_lt (length shifts + length runs) most_shifts then first.Nothing
    else over_by (find (λ s. not (is_active (status_at s now))) shifts) (find (λ r. not (is_pending (outcome_at r now))) runs)

-- the shifts and the practice runs without it
abbrev pub shifts_without : Forgotten → List Shift → List Shift
shifts_without first.Nothing shifts = shifts
shifts_without (first.Shift id) shifts = without_shift shifts id
shifts_without (first.Run id) shifts = shifts

abbrev pub practices_without : Forgotten → PlainPractices → PlainPractices
practices_without first.Nothing practices = practices
practices_without (first.Shift id) practices = practices
practices_without (first.Run id) practices = without_run practices id

-- it is kept
abbrev pub IsThere : Forgotten → List Shift → List Run → Type 0
IsThere first.Nothing shifts runs = Unit {0}
IsThere (first.Shift id) shifts runs = IsSome (find (λ s. s.id.0 == id.0) shifts)
IsThere (first.Run id) shifts runs = IsSome (find (λ r. r.id.0 == id.0) runs)

-- One shift more, where none of the resource is active. It interrupts the pending practice run of its resource.
unfoldable pub shift_added : List Shift → PlainPractices → Shift → ℕ → Result (List Shift × PlainPractices) Refusal
shift_added shifts practices new now =
    if is_some (active_of shifts new.resource now) then Err (Busy Customer)
    else Ok (
      shifts_without (forgotten_at shifts practices.runs now) shifts ++ new ∷ [],
      interrupted (practices_without (forgotten_at shifts practices.runs now) practices) new.resource now,
    )

-- One practice run more, where nothing blocks it.
unfoldable pub run_added : List Shift → PlainPractices → ShiftId → ResourceId → List ℕ → List ℕ → ℕ → Result (List Shift × PlainPractices) Refusal
run_added shifts practices id resource zone comment now = do
  left ← run_started (practices_without (forgotten_at shifts practices.runs now) practices) id resource zone comment now
  Ok (shifts_without (forgotten_at shifts practices.runs now) shifts, left)

-- how such a start ends in a plain state
abbrev pub ends_with : Plain → Body → Result (List Shift × PlainPractices) Refusal → Effect
ends_with plain shown (Ok kept) =
    Ok (shown, record plain { shifts = kept.0; practices = kept.1; shifts_drawn = plain.shifts_drawn + 1 })
ends_with plain shown (Err refusal) = Err refusal

-- a run of a configured resource starts, away from one of its zones, where no other shift is applied to it
abbrev pub starts_free : Plain → ResourceId → List ℕ → List ℕ → Effect
starts_free plain resource zone comment =
    ends_with plain (body.Shift (new_run_item (next_shift plain) resource zone comment plain.time))
    (run_added plain.shifts plain.practices (next_shift plain) resource zone comment plain.time)
