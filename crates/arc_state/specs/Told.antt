-- What is told of a shift that was changed.
use Rattle.std.specs.Prelude.{ℕ, List, Option, Some, None}
use Rattle.arc_ids.specs.declared.named_id.ShiftId.{ShiftId}
use Rattle.arc_data.specs.declared.reply.Body.TheVariants as body
use Rattle.arc_data.specs.declared.reply.Named.TheVariants as named
use Rattle.arc_data.specs.declared.reply.Refusal.TheVariants.{NotFound}
use Rattle.arc_data.specs.declared.reply.Reply.{Reply}
use Rattle.arc_data.specs.declared.reply.Reply.TheVariants.{Done, Refused}
use Rattle.arc_data.specs.declared.shift.Shift.{Shift}
use Rattle.arc_plain.specs.ZonalShifts.{shift_item}

-- the shift as replies show it, with this comment, or that it isn't there
abbrev pub told_of : Option Shift → ShiftId → List ℕ → ℕ → Reply
told_of None id comment now = Refused (NotFound (named.Shift id))
told_of (Some shift) id comment now = Done (body.Shift (record (shift_item shift now) { comment = comment }))
