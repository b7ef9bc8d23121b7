use Rattle.std.proofs.Common.{◌==◌, not, rules, List, sym, ap, subst, ◌∙◌}
use Rattle.std.proofs.lemmas.Fn.{filter_same}
use Rattle.arc_data.specs.declared.shift.Shift.{Shift}
use Rattle.arc_plain.specs.Shifts.{AreKeptShifts, without_shift}
use Rattle.arc_plain.proofs.Shifts.{kept_after_forget}
use Rattle.arc_shift.proofs.shifts.Shifts.forget.Goals as goal

-- the shift is dropped
pub returns : goal.returns
returns c =
    filter_same _ (λ s. not (s.id.0 == c.args.shift.0)) _ (λ x b f' called. search rules) _ _ c.retain.ensures.filtered
    ∙ ap (λ (xs : List Shift). without_shift xs c.args.shift) c.self.view_is

-- and the others are kept as they were
pub invariant_of-self : goal.invariant_of-self
invariant_of-self c =
    let test = λ (s : Shift). not (s.id.0 == c.args.shift.0) in
    let left = filter_same _ test _ (λ x b f' called. search rules) _ _ c.retain.ensures.filtered in
    subst AreKeptShifts (sym left) (kept_after_forget test c.self.inside.shifts.items c.self.invariant)
