use Rattle.std.proofs.Common.{sym}
use Rattle.arc_panel.proofs.Rows.{sees_panel}
use Rattle.arc_panel.proofs.panels.Panels.has.Goals as goal

pub returns : goal.returns
returns c =
    let found = rw c.as_slice.ensures.value at c.has_panel.ensures in
    rw (← c.self.view_is) (sym (sees_panel c.self.inside.panels.items c.self.inside.panels_drawn c.self.inside.controls.items c.self.inside.controls_drawn c.self.inside.states c.args.panel c.has_panel.result (sym found)))
