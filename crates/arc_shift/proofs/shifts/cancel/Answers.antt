use Rattle.std.proofs.Common.{Ok, set, sym, ap, ◌∙◌}
use Rattle.arc_data.specs.declared.shift.Shift.{Shift}
use Rattle.arc_plain.specs.Shifts.{canceled, canceled_at}
use Rattle.arc_plain.proofs.Shifts.{changed_there}
use Rattle.arc_shift.proofs.shifts.cancel.Goals as goal

-- the shift at its place is cancelled
pub returns-clause-does : goal.returns-clause-does
unfolding canceled
returns-clause-does c =
    let xs = c.args.shifts.now.items in
    let x = c.index_mut.result.now in
    let i = c.in-Ok.place in
    let there = rw c.as_slice.ensures.value at c.in-Ok.ensures.place in
    let active = rw c.as_slice.ensures.value at (c.in-Ok.ensures.active x) in
    changed_there (canceled_at c.args.now) xs c.args.id c.args.now i x c.requires.kept.in_order there active
    ∙ ap (λ (s : Shift). Ok (set xs i (canceled_at c.args.now s))) (sym c.index_mut.ensures.value)
