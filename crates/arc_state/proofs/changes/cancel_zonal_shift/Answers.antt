use Rattle.std.proofs.Common.{None, unwrap_or, refl}
use Rattle.arc_data.specs.declared.shift.Shift.{Shift}
use Rattle.arc_plain.specs.Shifts.{canceled, canceled_at, shift_of}
use Rattle.arc_plain.specs.ZonalShifts.{cancel_zonal_shift}
use Rattle.arc_state.proofs.Renewed.{change_does, mapped, missing_does, unmapped}
use Rattle.arc_state.proofs.changes.cancel_zonal_shift.Goals as goal

-- there is no such shift
pub returns-in_default-clause-does : goal.returns-in_default-clause-does
unfolding cancel_zonal_shift canceled
returns-in_default-clause-does c =
    let parts = c.args.parts.now in
    let none = unmapped (λ (s : Shift). unwrap_or None s.comment) (shift_of parts.shifts c.args.shift) (rw (c.in_default.is, c.list.ensures.all) at c.in_ok-text.ensures) in
    missing_does parts canceled_at c.args.shift c.not_found.result none c.not_found.ensures

-- the shift is changed
pub returns-in-Ok-clause-does : goal.returns-in-Ok-clause-does
unfolding cancel_zonal_shift canceled
returns-in-Ok-clause-does c =
    let parts = c.args.parts.now in
    let there = mapped (λ (s : Shift). unwrap_or None s.comment) (shift_of parts.shifts c.args.shift) c.in-Some.text (rw (c.in-Some.is, c.list.ensures.all) at c.in_ok-text.ensures) in
    let told = rw c.list-in-Ok.ensures.all at c.told.ensures in
    change_does parts canceled_at (λ s. refl) c.args.shift there.0 c.cancel.new.self c.in-Some.text c.told.result there.1 there.2 c.in-Ok.ensures told
