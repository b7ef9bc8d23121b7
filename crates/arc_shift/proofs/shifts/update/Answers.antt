use Rattle.std.proofs.Common.{◌≡◌, ℕ, Ok, Option, List, set, sym, ap, subst, ◌∙◌}
use Rattle.std.specs.Option.{option_map}
use Rattle.std.proofs.lemmas.List.Quantifiers.{position-Some}
use Rattle.arc_data.specs.declared.shift.Shift.{Shift}
use Rattle.arc_plain.specs.Shifts.{renewed, updated}
use Rattle.arc_plain.proofs.Shifts.{IsSameShift, changed_there, kept_after_set, renewed_same}
use Rattle.arc_shift.proofs.shifts.update.Goals as goal

-- a renewed shift is kept as the others are
pub returns-clause-kept : goal.returns-clause-kept
returns-clause-kept c =
    let xs = c.args.shifts.now.items in
    let x = c.index_mut.result.now in
    let i = c.in-Ok.place in
    let there = rw c.as_slice.ensures.value at c.in-Ok.ensures.place in
    let active = rw c.as_slice.ensures.value at (c.in-Ok.ensures.active x) in
    let new = renewed c.in_ok-comment.comment c.args.minutes c.args.now x in
    let same = subst (λ (s : Shift). IsSameShift s new) c.index_mut.ensures.value (renewed_same c.in_ok-comment.comment c.args.minutes c.args.now x) in
    rw c.renew.ensures
    (kept_after_set xs i c.args.now x new c.requires.kept c.requires.after_all (position-Some _ xs i x there).0 active same)

-- the shift at its place is renewed
pub returns-clause-does : goal.returns-clause-does
unfolding updated
returns-clause-does c =
    let xs = c.args.shifts.now.items in
    let x = c.index_mut.result.now in
    let i = c.in-Ok.place in
    let there = rw c.as_slice.ensures.value at c.in-Ok.ensures.place in
    let active = rw c.as_slice.ensures.value at (c.in-Ok.ensures.active x) in
    let given : Option (List ℕ) = option_map (λ t. t.now) c.args.comment in
    let copied : given ≡ c.in_ok-comment.comment = sym c.in_ok-comment.ensures in
    changed_there (renewed given c.args.minutes c.args.now) xs c.args.id c.args.now i x c.requires.kept.in_order there active
    ∙ ap (λ (s : Shift). Ok (set xs i (renewed given c.args.minutes c.args.now s))) (sym c.index_mut.ensures.value)
    ∙ ap (λ (t : Option (List ℕ)). Ok (set xs i (renewed t c.args.minutes c.args.now x))) copied
    ∙ ap (λ (s : Shift). Ok (set xs i s)) (sym c.renew.ensures)
