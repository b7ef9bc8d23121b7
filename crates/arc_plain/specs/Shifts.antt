-- The customer's shifts: what is kept of them, what became of one, and what the calls on them leave.
use Rattle.std.specs.Prelude.{◌≡◌, ℕ, ◌+◌, ◌*◌, ◌<◌, ◌≤◌, ◌==◌, ◌&&◌, ◌++◌, nat_lt, nat_le, Bool, true, false, not, List, [], ◌∷◌, All, AllPairs, map, filter, find, Option, Some, None, is_some, unwrap_or, Result, Ok, Err, if◌then◌else◌}
use Rattle.std.specs.Option.{option_map_or}
use Rattle.arc_ids.specs.declared.named_id.ResourceId.{ResourceId}
use Rattle.arc_ids.specs.declared.named_id.ShiftId.{ShiftId}
use Rattle.arc_data.specs.declared.shift.Shift.{Shift}
use Rattle.arc_data.specs.declared.shift.Kind.TheVariants.{Customer}
use Rattle.arc_data.specs.declared.shift.Status.{Status}
use Rattle.arc_data.specs.declared.shift.Status.TheVariants.{Active, Expired, Canceled}
use Rattle.arc_data.specs.declared.reply.Named.TheVariants as named
use Rattle.arc_data.specs.declared.reply.Refusal.{Refusal}
use Rattle.arc_data.specs.declared.reply.Refusal.TheVariants.{NotFound, NotActive, Busy}

-- ---- what became of a shift

-- whether it was cancelled before its time was over
abbrev pub was_canceled : Shift → Bool
was_canceled shift = option_map_or (λ at. nat_lt at shift.expiry) shift.canceled false

-- what became of a shift: cancelled, where that came before its time was over; else it is active until then
abbrev pub status_at : Shift → ℕ → Status
status_at shift now =
    if was_canceled shift then Canceled else (if nat_le shift.expiry now then Expired else Active)

-- whether it moves traffic away
abbrev pub is_active : Status → Bool
is_active Active = true
is_active Expired = false
is_active Canceled = false

-- the shift with this identifier
abbrev pub shift_of : List Shift → ShiftId → Option Shift
shift_of shifts id = find (λ s. s.id.0 == id.0) shifts

-- the shift of the resource that is active
abbrev pub active_of : List Shift → ResourceId → ℕ → Option Shift
active_of shifts resource now = find (λ s. (s.resource.0 == resource.0) && is_active (status_at s now)) shifts

-- ---- what the calls leave

-- minutes in milliseconds
abbrev pub minutes_ms : ℕ → ℕ
minutes_ms minutes = minutes * 60_000

-- a shift that starts now and is over after so many minutes
abbrev pub new_shift : ShiftId → ResourceId → List ℕ → ℕ → List ℕ → ℕ → Shift
new_shift id resource zone minutes comment now = record {
  id = id;
  resource = resource;
  away_from = zone;
  comment = comment;
  start = now;
  expiry = now + minutes_ms minutes;
  canceled = None;
}

-- One more shift, where none of the resource is active.
unfoldable pub started : List Shift → ShiftId → ResourceId → List ℕ → ℕ → List ℕ → ℕ → Result (List Shift) Refusal
started shifts id resource zone minutes comment now =
    if is_some (active_of shifts resource now) then Err (Busy Customer)
    else Ok (shifts ++ new_shift id resource zone minutes comment now ∷ [])

-- the shifts with that of this identifier changed
abbrev pub with_changed : (Shift → Shift) → ShiftId → List Shift → List Shift
with_changed change id shifts = map (λ s. if s.id.0 == id.0 then change s else s) shifts

-- An active shift can be changed; one that isn't there, or isn't active, can't.
abbrev pub changed : (Shift → Shift) → List Shift → ShiftId → ℕ → Option Shift → Result (List Shift) Refusal
changed change shifts id now None = Err (NotFound (named.Shift id))
changed change shifts id now (Some shift) =
    if is_active (status_at shift now) then Ok (with_changed change id shifts) else Err (NotActive (status_at shift now))

-- what is given of a comment and of minutes is set, the minutes from now on
abbrev pub renewed : Option (List ℕ) → Option ℕ → ℕ → Shift → Shift
renewed comment minutes now shift = record shift {
  comment = unwrap_or comment shift.comment;
  expiry = option_map_or (λ m. now + minutes_ms m) minutes shift.expiry;
}

unfoldable pub updated : List Shift → ShiftId → Option (List ℕ) → Option ℕ → ℕ → Result (List Shift) Refusal
updated shifts id comment minutes now = changed (renewed comment minutes now) shifts id now (shift_of shifts id)

-- the shift as it is once it was cancelled
abbrev pub canceled_at : ℕ → Shift → Shift
canceled_at now shift = record shift { canceled = Some now }

unfoldable pub canceled : List Shift → ShiftId → ℕ → Result (List Shift) Refusal
canceled shifts id now = changed (canceled_at now) shifts id now (shift_of shifts id)

-- the shifts without that of this identifier
abbrev pub without_shift : List Shift → ShiftId → List Shift
without_shift shifts id = filter (λ s. not (s.id.0 == id.0)) shifts

-- ---- what holds of the shifts that are kept

-- no kept shift starts later than now
abbrev pub HaveStarted : List Shift → ℕ → Type 0
HaveStarted shifts now = All (λ s. s.start ≤ now) shifts

-- identifiers ascend
abbrev pub AreInOrder : List Shift → Type 0
AreInOrder shifts = AllPairs (λ earlier later. earlier.id.0 < later.id.0) shifts

-- a shift isn't active when the next of its resource starts
abbrev pub AreApart : List Shift → Type 0
AreApart shifts =
    AllPairs (λ earlier later. earlier.resource.0 ≡ later.resource.0 → is_active (status_at earlier later.start) ≡ false) shifts

-- At most one shift of a resource is active at a moment that isn't before the start of any.
abbrev pub AreAlone : List Shift → Type 0
AreAlone shifts =
    (now : ℕ) → HaveStarted shifts now →
    AllPairs (λ one other. one.resource.0 ≡ other.resource.0 → is_active (status_at one now) ≡ true → is_active (status_at other now) ≡ false) shifts

-- what holds of the shifts that are kept
pub record AreKeptShifts (shifts : List Shift) : Type 0 where
  pub in_order : AreInOrder shifts
  pub apart : AreApart shifts
