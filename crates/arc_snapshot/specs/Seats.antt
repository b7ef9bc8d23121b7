-- What the seats at the sides carry.
use Rattle.std.specs.Prelude.{Option}
use Rattle.atomic_table.specs.declared.shared.Seat.{Seat}
use Rattle.left_right.specs.declared.board.Doing.{Doing}
use Rattle.left_right.specs.declared.part.Part.{Part}
use Rattle.arc_snapshot.specs.declared.known.Known.{Known}

-- what the reader at this seat knows
abbrev pub known_at : {T : Type 0} → Seat (Option (Part T)) (Doing T Known) → Known
known_at seat = seat.me.0.client
