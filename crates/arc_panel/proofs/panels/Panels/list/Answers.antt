use Rattle.std.proofs.Common.{sym, ◌∙◌}
use Rattle.arc_panel.proofs.Rows.{list_all_done, list_done, list_unknown}
use Rattle.arc_panel.proofs.panels.Panels.list.Goals as goal

pub returns-then-not-has_panel : goal.returns-then-not-has_panel
returns-then-not-has_panel c =
    let known = rw c.as_slice.ensures.value at c.has_panel.ensures in
    rw (c.not_found.ensures, c.in-Some.is, ← c.self.view_is)
    (list_unknown c.self.inside.panels.items c.self.inside.panels_drawn c.self.inside.controls.items c.self.inside.controls_drawn c.self.inside.states c.in-Some.own (sym known ∙ c.if-not-has_panel.true))

pub returns-in_ok-items-in-None : goal.returns-in_ok-items-in-None
returns-in_ok-items-in-None c =
    let items = rw c.as_slice-controls.ensures.value at c.in_ok-items-in-None.ensures in
    rw (c.in-None.is, ← c.self.view_is)
    (list_all_done c.self.inside.panels.items c.self.inside.panels_drawn c.self.inside.controls.items c.self.inside.controls_drawn c.self.inside.states c.of.result (c.of.ensures ∙ items))

pub returns-in_ok-items-in-Some : goal.returns-in_ok-items-in-Some
returns-in_ok-items-in-Some c =
    let known = rw c.as_slice.ensures.value at c.has_panel.ensures in
    let items = rw c.as_slice-controls.ensures.value at c.in_ok-items-in-Some.ensures in
    rw (c.in-Some.is, ← c.self.view_is)
    (list_done c.self.inside.panels.items c.self.inside.panels_drawn c.self.inside.controls.items c.self.inside.controls_drawn c.self.inside.states c.in-Some.own c.of-in-Some.result (sym known ∙ c.if-not-has_panel.false) (c.of-in-Some.ensures ∙ items))
