use Rattle.std.proofs.Common.{sym, ◌∙◌}
use Rattle.arc_panel.proofs.Rows.{on_seen, sees_control}
use Rattle.arc_panel.proofs.panels.Panels.states.Goals as goal

pub returns-clause-are_on : goal.returns-clause-are_on
returns-clause-are_on c k = rw (← c.self.view_is) (on_seen c.self.inside.panels.items c.self.inside.panels_drawn c.self.inside.controls.items c.self.inside.controls_drawn c.self.inside.states k (c.self.invariant.have_states k))

pub returns-clause-are_there : goal.returns-clause-are_there
returns-clause-are_there c k =
    rw (← c.self.view_is) (c.self.invariant.have_states k ∙ sym (sees_control c.self.inside.panels.items c.self.inside.panels_drawn c.self.inside.controls.items c.self.inside.controls_drawn c.self.inside.states k))
