-- What a row gives where nothing refuses it.
use Rattle.std.proofs.Common.{◌≡◌, ◌+◌, ◌++◌, ◌∷◌, [], ℕ, true, false, cond, List, Option, Some, None, is_some, Result, Ok, Err, refl, ap}
use Rattle.std.specs.Option.{option_map}
use Rattle.arc_ids.specs.declared.named_id.ResourceId.{ResourceId}
use Rattle.arc_data.specs.declared.reply.Body.TheVariants as body
use Rattle.arc_data.specs.declared.reply.Refusal.{Refusal}
use Rattle.arc_data.specs.declared.reply.Refusal.TheVariants.{Busy, WrongZone}
use Rattle.arc_data.specs.declared.resource.Resource.{Resource}
use Rattle.arc_data.specs.declared.shift.Kind.TheVariants.{Customer}
use Rattle.arc_data.specs.declared.shift.Shift.{Shift}
use Rattle.arc_plain.specs.Rows.{◌>>=◌, refuse_found}
use Rattle.arc_plain.specs.State.{Effect, Plain, next_shift}
use Rattle.arc_plain.specs.Resources.{resource_of}
use Rattle.arc_plain.specs.Shifts.{active_of, new_shift}
use Rattle.arc_plain.specs.Practice.{PlainPractices, interrupted}
use Rattle.arc_plain.specs.ZonalShifts.{has_zone, shift_item, start_zonal_shift, with_room, with_shift}
use Rattle.arc_state.specs.Room.{forgotten_at, practices_without, shift_added, shifts_without}
use Rattle.arc_state.proofs.Rooms.{room_is}

-- how a start ends, by what is active
abbrev pub left_in : Plain → Shift → Result (List Shift × PlainPractices) Refusal → Effect
left_in plain new (Ok kept) =
    Ok (body.Shift (shift_item new plain.time), record plain { shifts = kept.0; practices = kept.1; shifts_drawn = plain.shifts_drawn + 1 })
left_in plain new (Err refusal) = Err refusal

-- the row of a start in a zone of a resource
pub start_row : (plain : Plain) (resource : ResourceId) (zone : List ℕ) (minutes : ℕ) (comment : List ℕ) (there : Resource) →
    resource_of plain.resources resource ≡ Some there → has_zone there zone ≡ true →
    start_zonal_shift plain resource zone minutes comment
    ≡ left_in plain (new_shift (next_shift plain) resource zone minutes comment plain.time)
    (shift_added plain.shifts plain.practices (new_shift (next_shift plain) resource zone minutes comment plain.time) plain.time)
unfolding start_zonal_shift shift_added
start_row plain resource zone minutes comment there found inside =
    rw (found, inside) (by_active (active_of plain.shifts resource plain.time))
  where
    by_active : (o : Option Shift) →
        (refuse_found (λ s. Busy Customer) o >>= (λ free. Ok (
          body.Shift (shift_item (new_shift (next_shift plain) resource zone minutes comment plain.time) plain.time),
          with_shift (with_room plain) (new_shift (next_shift plain) resource zone minutes comment plain.time),
        )))
        ≡ left_in plain (new_shift (next_shift plain) resource zone minutes comment plain.time) (cond (is_some o) (Err (Busy Customer)) (Ok (
          shifts_without (forgotten_at plain.shifts plain.practices.runs plain.time) plain.shifts
              ++ new_shift (next_shift plain) resource zone minutes comment plain.time ∷ [],
          interrupted (practices_without (forgotten_at plain.shifts plain.practices.runs plain.time) plain.practices) resource plain.time,
        )))
    by_active (Some s) = refl
    by_active None =
        ap (λ (p : Plain). Ok (
          body.Shift (shift_item (new_shift (next_shift plain) resource zone minutes comment plain.time) plain.time),
          with_shift p (new_shift (next_shift plain) resource zone minutes comment plain.time),
        )) (room_is plain)

-- a resource whose zones are told is there
pub found_with : (o : Option Resource) (zones : List (List ℕ)) → Some zones ≡ option_map (λ r. r.zones) o →
    (r : Resource) × (o ≡ Some r) × (zones ≡ r.zones)
found_with None zones is = absurd (cc)
found_with (Some r) zones is = let same : zones ≡ r.zones = cc in (r, refl, same)

-- the row of a start in a zone that the resource lacks
pub wrong_zone_row : (plain : Plain) (resource : ResourceId) (zone : List ℕ) (minutes : ℕ) (comment : List ℕ) (there : Resource) →
    resource_of plain.resources resource ≡ Some there → has_zone there zone ≡ false →
    start_zonal_shift plain resource zone minutes comment ≡ Err (WrongZone zone)
unfolding start_zonal_shift
wrong_zone_row plain resource zone minutes comment there found outside = rw (found, outside) refl
