use Rattle.std.proofs.Common.{ℕ, List, Option, unwrap_or, refl, sym, ap, ◌∙◌}
use Rattle.arc_data.specs.declared.shift.Shift.{Shift}
use Rattle.arc_plain.specs.Shifts.{updated, renewed, shift_of}
use Rattle.arc_plain.specs.ZonalShifts.{update_zonal_shift}
use Rattle.arc_state.proofs.Renewed.{change_does, mapped, missing_does, unmapped}
use Rattle.arc_state.proofs.changes.update_zonal_shift.Goals as goal

-- there is no such shift
pub returns-in_default-clause-does : goal.returns-in_default-clause-does
unfolding update_zonal_shift updated
returns-in_default-clause-does c =
    let parts = c.args.parts.now in
    let none = unmapped (λ (s : Shift). unwrap_or c.args.comment.now s.comment) (shift_of parts.shifts c.args.shift) (rw (c.in_default.is, c.list.ensures.all) at c.in_ok-text.ensures) in
    missing_does parts (renewed c.args.comment.now c.args.minutes) c.args.shift c.not_found.result none c.not_found.ensures

-- the shift is changed
pub returns-in-Ok-clause-does : goal.returns-in-Ok-clause-does
unfolding update_zonal_shift updated
returns-in-Ok-clause-does c =
    let parts = c.args.parts.now in
    let there = mapped (λ (s : Shift). unwrap_or c.args.comment.now s.comment) (shift_of parts.shifts c.args.shift) c.in-Some.text (rw (c.in-Some.is, c.list.ensures.all) at c.in_ok-text.ensures) in
    let told = rw c.list-in-Ok.ensures.all at c.told.ensures in
    change_does parts (renewed c.args.comment.now c.args.minutes) (λ s. refl) c.args.shift there.0 c.update.new.self c.in-Some.text c.told.result there.1 there.2
    (ap (λ (g : Option (List ℕ)). updated parts.shifts c.args.shift g c.args.minutes parts.time) (sym c.as_ref.ensures.value) ∙ c.in-Ok.ensures) told
