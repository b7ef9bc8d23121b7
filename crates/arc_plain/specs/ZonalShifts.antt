-- What the operations on managed resources and on the customer's shifts do.
use Rattle.std.specs.Prelude.{ℕ, ◌+◌, ◌++◌, List, [], ◌∷◌, length, find, Bool, not, nat_lt, Option, Some, None, Ok, if◌then◌else◌}
use Rattle.std.specs.List.{list_any}
use Rattle.std.specs.Str.{bytes_eq}
use Rattle.arc_ids.specs.declared.named_id.ResourceId.{ResourceId}
use Rattle.arc_ids.specs.declared.named_id.ShiftId.{ShiftId}
use Rattle.arc_data.specs.declared.practice.Run.{Run}
use Rattle.arc_data.specs.declared.reply.Body.TheVariants as body
use Rattle.arc_data.specs.declared.reply.Named.TheVariants as named
use Rattle.arc_data.specs.declared.reply.Refusal.{Refusal}
use Rattle.arc_data.specs.declared.reply.Refusal.TheVariants.{NotFound, WrongZone, Busy}
use Rattle.arc_data.specs.declared.resource.Resource.{Resource}
use Rattle.arc_data.specs.declared.shift.Kind.TheVariants.{Customer}
use Rattle.arc_data.specs.declared.shift.Shift.{Shift}
use Rattle.arc_data.specs.declared.shift.ShiftItem.{ShiftItem}
use Rattle.arc_plain.specs.Rows.{◌>>=◌, require, refuse_found, the_found}
use Rattle.arc_plain.specs.State.{Effect, Plain, next_shift}
use Rattle.arc_plain.specs.Resources.{registered, next_resource, resource_of}
use Rattle.arc_plain.specs.Shifts.{active_of, canceled, is_active, new_shift, shift_of, status_at, updated, without_shift}
use Rattle.arc_plain.specs.Practice.{interrupted, is_pending, outcome_at, without_run}

-- ---- resources

-- A new resource has the next identifier.
unfoldable pub register_managed_resource : Plain → List ℕ → List (List ℕ) → Effect
register_managed_resource plain name zones = do
  resources ← registered plain.resources name zones
  Ok (body.Resource (next_resource plain.resources), record plain { resources = resources })

-- whether a resource has a zone
abbrev pub has_zone : Resource → List ℕ → Bool
has_zone resource zone = list_any (λ z. bytes_eq z zone) resource.zones

-- why there is no such resource
abbrev pub no_resource : ResourceId → Refusal
no_resource resource = NotFound (named.Resource resource)

-- ---- how many shifts and practice runs are kept

-- the most that are kept, shifts and practice runs together
abbrev pub most_shifts : ℕ
most_shifts = 1_024

-- the shift and the practice run of least identifier that are over
abbrev pub first_over : Plain → Option Shift
first_over plain = find (λ s. not (is_active (status_at s plain.time))) plain.shifts

abbrev pub first_run_over : Plain → Option Run
first_run_over plain = find (λ r. not (is_pending (outcome_at r plain.time))) plain.practices.runs

-- without a shift, without a practice run
abbrev pub forgets_shift : Plain → ShiftId → Plain
forgets_shift plain id = record plain { shifts = without_shift plain.shifts id }

abbrev pub forgets_run : Plain → ShiftId → Plain
forgets_run plain id = record plain { practices = without_run plain.practices id }

-- without that of a shift and a practice run which has the lesser identifier
abbrev pub forgets : Plain → Option Shift → Option Run → Plain
forgets plain None None = plain
forgets plain (Some shift) None = forgets_shift plain shift.id
forgets plain None (Some run) = forgets_run plain run.id
forgets plain (Some shift) (Some run) =
    if nat_lt shift.id.0 run.id.0 then forgets_shift plain shift.id else forgets_run plain run.id

-- with room for one more: where as many are kept as may be, the one of least identifier that is over is forgotten
abbrev pub with_room : Plain → Plain
with_room plain =
    if nat_lt (length plain.shifts + length plain.practices.runs) most_shifts then plain
    else forgets plain (first_over plain) (first_run_over plain)

-- ---- the customer's shifts

-- a shift as replies show it at a list time
abbrev pub shift_item : Shift → ℕ → ShiftItem
shift_item shift now = record {
  id = shift.id;
  resource = shift.resource;
  away_from = shift.away_from;
  comment = shift.comment;
  start = shift.start;
  expiry = shift.expiry;
  status = status_at shift now;
  outcome = None;
}

-- with one shift more, which interrupts the pending practice run of its resource
abbrev pub with_shift : Plain → Shift → Plain
with_shift plain shift = record plain {
  shifts = plain.shifts ++ shift ∷ [];
  practices = interrupted plain.practices shift.resource plain.time;
  shifts_drawn = plain.shifts_drawn + 1;
}

-- A new shift has the next identifier, and begins now. What has to be forgotten is forgotten first.
unfoldable pub start_zonal_shift : Plain → ResourceId → List ℕ → ℕ → List ℕ → Effect
start_zonal_shift plain resource zone minutes comment = do
  there ← the_found (no_resource resource) (resource_of plain.resources resource)
  inside ← require (has_zone there zone) (WrongZone zone)
  free ← refuse_found (λ s. Busy Customer) (active_of plain.shifts resource plain.time)
  Ok (
    body.Shift (shift_item (new_shift (next_shift plain) resource zone minutes comment plain.time) plain.time),
    with_shift (with_room plain) (new_shift (next_shift plain) resource zone minutes comment plain.time),
  )

-- What is given of an active shift is set, and the shift is shown as it is then.
unfoldable pub update_zonal_shift : Plain → ShiftId → Option (List ℕ) → Option ℕ → Effect
update_zonal_shift plain id comment minutes = do
  shifts ← updated plain.shifts id comment minutes plain.time
  shift ← the_found (NotFound (named.Shift id)) (shift_of shifts id)
  Ok (body.Shift (shift_item shift plain.time), record plain { shifts = shifts })

-- An active shift is cancelled, and shown as it is then.
unfoldable pub cancel_zonal_shift : Plain → ShiftId → Effect
cancel_zonal_shift plain id = do
  shifts ← canceled plain.shifts id plain.time
  shift ← the_found (NotFound (named.Shift id)) (shift_of shifts id)
  Ok (body.Shift (shift_item shift plain.time), record plain { shifts = shifts })
