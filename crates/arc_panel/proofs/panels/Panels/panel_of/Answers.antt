use Rattle.std.proofs.Common.{Some, None}
use Rattle.arc_panel.proofs.Rows.{panel_seen}
use Rattle.arc_panel.proofs.panels.Panels.panel_of.Goals as goal

pub returns-in-Some : goal.returns-in-Some
returns-in-Some c =
    let found = rw (c.as_slice.ensures.value, c.in-Some.is) at c.control_of.ensures in
    rw (← c.self.view_is) (panel_seen c.self.inside.panels.items c.self.inside.panels_drawn c.self.inside.controls.items c.self.inside.controls_drawn c.self.inside.states c.args.control (Some c.in-Some.control.now) found)

pub returns-in-None : goal.returns-in-None
returns-in-None c =
    let found = rw (c.as_slice.ensures.value, c.in-None.is) at c.control_of.ensures in
    rw (← c.self.view_is) (panel_seen c.self.inside.panels.items c.self.inside.panels_drawn c.self.inside.controls.items c.self.inside.controls_drawn c.self.inside.states c.args.control None found)
