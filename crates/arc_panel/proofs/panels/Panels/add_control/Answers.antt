use Rattle.std.proofs.Common.{sym, refl, ◌∙◌, arith}
use Rattle.arc_panel.proofs.Rows.{add_control_unknown, add_control_full, add_control_taken, add_control_done, kept_added}
use Rattle.arc_panel.proofs.panels.Panels.add_control.Goals as goal

pub returns-then-not-has_panel-clause-does : goal.returns-then-not-has_panel-clause-does
returns-then-not-has_panel-clause-does c =
    let known = rw c.as_slice.ensures.value at c.has_panel.ensures in
    rw (c.not_found.ensures, ← c.self.view_is)
    (add_control_unknown c.self.inside.panels.items c.self.inside.panels_drawn c.self.inside.controls.items c.self.inside.controls_drawn c.self.inside.states c.args.name.now c.args.panel _ (sym known ∙ c.if-not-has_panel.true))

pub returns-then-len-ge-MOST_CONTROLS-clause-does : goal.returns-then-len-ge-MOST_CONTROLS-clause-does
returns-then-len-ge-MOST_CONTROLS-clause-does c =
    let known = rw c.as_slice.ensures.value at c.has_panel.ensures in
    rw (← c.self.view_is)
    (add_control_full c.self.inside.panels.items c.self.inside.panels_drawn c.self.inside.controls.items c.self.inside.controls_drawn c.self.inside.states c.args.name.now c.args.panel _ _ (sym known ∙ c.if-not-has_panel.false) (omega arith) (omega arith))

pub returns-in-Some-clause-does : goal.returns-in-Some-clause-does
returns-in-Some-clause-does c =
    let known = rw c.as_slice.ensures.value at c.has_panel.ensures in
    let found = rw c.as_slice-2.ensures.value at c.control_named.ensures in
    rw (c.name_taken.ensures, ← c.self.view_is)
    (add_control_taken c.self.inside.panels.items c.self.inside.panels_drawn c.self.inside.controls.items c.self.inside.controls_drawn c.self.inside.states c.args.name.now c.args.panel _ c.in-Some.holder (sym known ∙ c.if-not-has_panel.false) (omega arith)
    (sym found ∙ c.in-Some.is))

pub invariant_of-self-2 : goal.invariant_of-self-2
invariant_of-self-2 c =
    let items = rw c.in_ok-reserve.ensures.items at c.in_ok-push.ensures.items in
    rw c.in_ok-insert.ensures.ok
    (kept_added c.self.inside.panels.items c.self.inside.controls.items c.self.inside.controls_drawn c.self.inside.states _ _ c.self.invariant (omega arith) refl items)

pub returns-clause-does : goal.returns-clause-does
returns-clause-does c =
    let known = rw c.as_slice.ensures.value at c.has_panel.ensures in
    let found = rw c.as_slice-2.ensures.value at c.control_named.ensures in
    let items = rw (c.in_ok-reserve.ensures.items, c.in_ok-name.ensures) at c.in_ok-push.ensures.items in
    rw (c.in_ok-insert.ensures.ok, ← c.self.view_is)
    (add_control_done c.self.inside.panels.items c.self.inside.panels_drawn c.self.inside.controls.items c.self.inside.controls_drawn c.self.inside.states c.args.name.now c.args.panel _ c.self.invariant.drawn_before (sym known ∙ c.if-not-has_panel.false) (omega arith)
    (sym found ∙ c.in_default.is) items)
