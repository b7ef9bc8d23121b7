use Rattle.std.proofs.Common.{sym, ◌∙◌, arith}
use Rattle.arc_panel.proofs.Rows.{add_panel_full, add_panel_taken, add_panel_done}
use Rattle.arc_panel.proofs.panels.Panels.add_panel.Goals as goal

pub returns-then-len-ge-MOST_PANELS-clause-does : goal.returns-then-len-ge-MOST_PANELS-clause-does
returns-then-len-ge-MOST_PANELS-clause-does c =
    rw (← c.self.view_is) (add_panel_full c.self.inside.panels.items c.self.inside.panels_drawn c.self.inside.controls.items c.self.inside.controls_drawn c.self.inside.states c.args.name.now _ _ (omega arith) (omega arith))

pub returns-in-Some-clause-does : goal.returns-in-Some-clause-does
returns-in-Some-clause-does c =
    let found = rw c.as_slice.ensures.value at c.panel_named.ensures in
    rw (c.name_taken.ensures, ← c.self.view_is)
    (add_panel_taken c.self.inside.panels.items c.self.inside.panels_drawn c.self.inside.controls.items c.self.inside.controls_drawn c.self.inside.states c.args.name.now _ c.in-Some.holder (omega arith) (sym found ∙ c.in-Some.is))

pub returns-clause-does : goal.returns-clause-does
returns-clause-does c =
    let found = rw c.as_slice.ensures.value at c.panel_named.ensures in
    rw (← c.self.view_is)
    (add_panel_done c.self.inside.panels.items c.self.inside.panels_drawn c.self.inside.controls.items c.self.inside.controls_drawn c.self.inside.states c.args.name.now _ (omega arith) (sym found ∙ c.in_default.is)
    (rw c.in_ok-name.ensures at c.in_ok-push.ensures.items))
