use Rattle.std.proofs.Common.{◌≡◌, ◌+◌, List, ℕ, Ok, Err, refl, sym, ap, ◌∙◌}
use Rattle.std.specs.List.{list_any}
use Rattle.std.specs.Str.{bytes_eq}
use Rattle.arc_data.specs.declared.reply.Body.TheVariants as body
use Rattle.arc_data.specs.declared.reply.Refusal.TheVariants.{WrongZone}
use Rattle.arc_data.specs.declared.reply.Reply.TheVariants.{Done, Refused}
use Rattle.arc_data.specs.declared.shift.Shift.{Shift}
use Rattle.arc_data.specs.declared.shift.ShiftItem.{ShiftItem}
use Rattle.arc_plain.specs.Practice.{PlainPractices}
use Rattle.arc_plain.specs.Resources.{resource_of}
use Rattle.arc_plain.specs.Shifts.{new_shift}
use Rattle.arc_plain.specs.ZonalShifts.{shift_item, start_zonal_shift}
use Rattle.arc_state.proofs.Ended.{err_done}
use Rattle.arc_state.proofs.Stands.{done_by, plain_at, stands_at}
use Rattle.arc_state.proofs.Started.{found_with, left_in, start_row, wrong_zone_row}
use Rattle.arc_state.proofs.shifts.start_zonal_shift.Goals as goal

-- the resource lacks the zone
pub returns-then-not-has_zone-clause-does : goal.returns-then-not-has_zone-clause-does
returns-then-not-has_zone-clause-does c =
    let parts = c.args.parts.now in
    let there = found_with (resource_of parts.resources c.args.resource) c.in-Some.zones.now c.in-Some.ensures in
    let outside = sym (ap (λ (zs : List (List ℕ)). list_any (λ z. bytes_eq z c.args.away_from) zs) there.2) ∙ sym c.has_zone.ensures ∙ c.if-not-has_zone.true in
    done_by (λ p. start_zonal_shift p c.args.resource c.args.away_from c.args.minutes c.args.comment.now) parts (Refused (WrongZone c.args.away_from)) parts
    (λ rules. Err (WrongZone c.args.away_from))
    (λ rules. wrong_zone_row (plain_at parts rules) c.args.resource c.args.away_from c.args.minutes c.args.comment.now there.0 there.1 outside)
    (λ rules stands. (refl, stands_at parts rules stands))

-- the shift begins
pub returns-in-Ok-clause-does : goal.returns-in-Ok-clause-does
returns-in-Ok-clause-does c =
    let parts = c.args.parts.now in
    let there = found_with (resource_of parts.resources c.args.resource) c.in-Some.zones.now c.in-Some.ensures in
    let inside = sym (ap (λ (zs : List (List ℕ)). list_any (λ z. bytes_eq z c.args.away_from) zs) there.2) ∙ sym c.has_zone.ensures ∙ c.if-not-has_zone.false in
    let new : Shift = new_shift (record { 0 = parts.shifts_drawn + 1 }) c.args.resource c.args.away_from c.args.minutes c.args.comment.now parts.time in
    let item : c.new_item-item.result ≡ shift_item new parts.time =
    c.new_item-item.ensures
    ∙ ap (λ (t : List ℕ). shift_item (new_shift (record { 0 = parts.shifts_drawn + 1 }) c.args.resource c.args.away_from c.args.minutes t parts.time) parts.time) c.in_ok-text.ensures in
    done_by (λ p. start_zonal_shift p c.args.resource c.args.away_from c.args.minutes c.args.comment.now) parts (Done (body.Shift c.new_item-item.result)) _
    (λ rules. left_in (plain_at parts rules) new (Ok (c.add_shift.new.shifts, c.add_shift.new.practices)))
    (λ rules. start_row (plain_at parts rules) c.args.resource c.args.away_from c.args.minutes c.args.comment.now there.0 there.1 inside
    ∙ ap (left_in (plain_at parts rules) new) c.in-Ok.ensures)
    (λ rules stands. (
      ap (λ (i : ShiftItem). Done (body.Shift i)) item,
      record { time = refl; count = refl; panels = refl; rules = stands; resources = refl; shifts = refl; practices = refl; shifts_drawn = refl },
    ))

-- a shift of the resource is active
pub returns-in-Err-clause-does : goal.returns-in-Err-clause-does
returns-in-Err-clause-does c =
    let parts = c.args.parts.now in
    let there = found_with (resource_of parts.resources c.args.resource) c.in-Some.zones.now c.in-Some.ensures in
    let inside = sym (ap (λ (zs : List (List ℕ)). list_any (λ z. bytes_eq z c.args.away_from) zs) there.2) ∙ sym c.has_zone.ensures ∙ c.if-not-has_zone.false in
    let new : Shift = new_shift (record { 0 = parts.shifts_drawn + 1 }) c.args.resource c.args.away_from c.args.minutes c.args.comment.now parts.time in
    err_done _ c.in-Err.end c.refused.result _ _ _ c.in-Err.ensures c.refused.ensures
    (λ refusal is same.
    done_by (λ p. start_zonal_shift p c.args.resource c.args.away_from c.args.minutes c.args.comment.now) parts (Refused refusal) _
    (λ rules. left_in (plain_at parts rules) new (Err refusal))
    (λ rules. start_row (plain_at parts rules) c.args.resource c.args.away_from c.args.minutes c.args.comment.now there.0 there.1 inside
    ∙ ap (left_in (plain_at parts rules) new) is)
    (λ rules stands. (
      refl,
      record { time = refl; count = refl; panels = refl; rules = stands; resources = refl; shifts = ap (λ (k : List Shift × PlainPractices). k.0) same; practices = ap (λ (k : List Shift × PlainPractices). k.1) same; shifts_drawn = refl },
    )))
