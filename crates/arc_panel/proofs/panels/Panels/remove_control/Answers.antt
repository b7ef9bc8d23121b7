use Rattle.std.proofs.Common.{sym, ◌∙◌, arith}
use Rattle.arc_panel.proofs.Rows.{kept_removed, remove_control_unknown, remove_control_done}
use Rattle.arc_panel.proofs.panels.Panels.remove_control.Goals as goal

pub returns-then-not-has_control-clause-does : goal.returns-then-not-has_control-clause-does
returns-then-not-has_control-clause-does c =
    let unknown = rw c.as_slice.ensures.value at c.has_control.ensures in
    rw (c.not_found.ensures, ← c.self.view_is)
    (remove_control_unknown c.self.inside.panels.items c.self.inside.panels_drawn c.self.inside.controls.items c.self.inside.controls_drawn c.self.inside.states c.args.control _ (sym unknown ∙ c.if-not-has_control.true))

pub invariant_of-self : goal.invariant_of-self
invariant_of-self c =
    rw c.remove.ensures
    (kept_removed c.self.inside.panels.items c.self.inside.controls.items c.self.inside.controls_drawn c.self.inside.states c.drop_control.new.controls.items c.args.control.0 c.self.invariant (omega arith) c.drop_control.ensures.others)

pub returns-clause-does : goal.returns-clause-does
returns-clause-does c =
    let known = rw c.as_slice.ensures.value at c.has_control.ensures in
    rw (c.remove.ensures, ← c.self.view_is)
    (remove_control_done c.self.inside.panels.items c.self.inside.panels_drawn c.self.inside.controls.items c.self.inside.controls_drawn c.self.inside.states c.args.control _ (sym known ∙ c.if-not-has_control.false) c.drop_control.ensures.others)
