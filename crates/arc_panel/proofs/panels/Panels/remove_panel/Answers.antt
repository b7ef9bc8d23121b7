use Rattle.std.proofs.Common.{sym, ◌∙◌, arith}
use Rattle.arc_panel.proofs.Rows.{remove_panel_unknown, remove_panel_first, remove_panel_used, remove_panel_done}
use Rattle.arc_panel.proofs.panels.Panels.remove_panel.Goals as goal

pub returns-then-not-has_panel-clause-does : goal.returns-then-not-has_panel-clause-does
returns-then-not-has_panel-clause-does c =
    let known = rw c.as_slice.ensures.value at c.has_panel.ensures in
    rw (c.not_found.ensures, ← c.self.view_is)
    (remove_panel_unknown c.self.inside.panels.items c.self.inside.panels_drawn c.self.inside.controls.items c.self.inside.controls_drawn c.self.inside.states c.args.panel _ (sym known ∙ c.if-not-has_panel.true))

pub returns-then-panel-clause-does : goal.returns-then-panel-clause-does
returns-then-panel-clause-does c =
    let known = rw c.as_slice.ensures.value at c.has_panel.ensures in
    rw (c.in_use.ensures, ← c.self.view_is)
    (remove_panel_first c.self.inside.panels.items c.self.inside.panels_drawn c.self.inside.controls.items c.self.inside.controls_drawn c.self.inside.states c.args.panel _ (sym known ∙ c.if-not-has_panel.false) (omega arith))

pub returns-in-Some-clause-does : goal.returns-in-Some-clause-does
returns-in-Some-clause-does c =
    let known = rw c.as_slice.ensures.value at c.has_panel.ensures in
    let found = rw c.as_slice-2.ensures.value at c.first_in.ensures in
    rw (c.in_use-in-Some.ensures, ← c.self.view_is)
    (remove_panel_used c.self.inside.panels.items c.self.inside.panels_drawn c.self.inside.controls.items c.self.inside.controls_drawn c.self.inside.states c.args.panel _ c.in-Some.control (sym known ∙ c.if-not-has_panel.false) (omega arith) (sym found ∙ c.in-Some.is))

pub returns-clause-does : goal.returns-clause-does
returns-clause-does c =
    let known = rw c.as_slice.ensures.value at c.has_panel.ensures in
    let found = rw c.as_slice-2.ensures.value at c.first_in.ensures in
    rw (← c.self.view_is)
    (remove_panel_done c.self.inside.panels.items c.self.inside.panels_drawn c.self.inside.controls.items c.self.inside.controls_drawn c.self.inside.states c.args.panel _ (sym known ∙ c.if-not-has_panel.false) (omega arith) (sym found ∙ c.in_default.is) c.drop_panel.ensures.others)
