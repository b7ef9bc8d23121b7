-- The texts of shifts, which are UUIDs.
use Rattle.std.specs.Prelude.{ℕ, ◌/◌, ◌^◌, ◌==◌, List, Option, Some, None, if◌then◌else◌}
use Rattle.std.specs.Int.{w128, to_be_bytes, from_be_bytes}
use Rattle.std.specs.Option.{option_and_then}
use Rattle.uuid.specs.Text.{hyphenated_text, lower, parsed}
use Rattle.arc_ids.specs.declared.named_id.ShiftId.{ShiftId}

-- A shift's text is the UUID whose lower 64 bits are its number and whose upper 64 bits are 0, hyphenated and in lower
-- case.
unfoldable pub shift_text : ShiftId → List ℕ
shift_text shift = hyphenated_text lower (to_be_bytes w128 shift.0)

-- the shift of sixteen bytes, of which the first eight are 0
abbrev pub shift_of_bytes : List ℕ → Option ShiftId
shift_of_bytes bytes =
    if from_be_bytes w128 bytes / 2 ^ 64 == 0 then Some (record { 0 = from_be_bytes w128 bytes }) else None

-- the shift that a text names, in each form that is read as a UUID
unfoldable pub shift_of_text : List ℕ → Option ShiftId
shift_of_text text = option_and_then shift_of_bytes (parsed text)
