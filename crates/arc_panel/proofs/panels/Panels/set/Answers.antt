use Rattle.std.proofs.Common.{sym, ◌∙◌}
use Rattle.arc_panel.proofs.Rows.{kept_set, sees_control, set_done}
use Rattle.arc_panel.proofs.panels.Panels.set.Goals as goal

pub set-requires : goal.set-requires
set-requires c =
    let there = rw (← c.self.view_is) at c.requires in
    c.self.invariant.have_states c.args.control ∙ sym (sees_control c.self.inside.panels.items c.self.inside.panels_drawn c.self.inside.controls.items c.self.inside.controls_drawn c.self.inside.states c.args.control) ∙ there

pub invariant_of-self : goal.invariant_of-self
invariant_of-self c =
    let there = rw (← c.self.view_is) at c.requires in
    rw c.set.ensures
    (kept_set c.self.inside.panels.items c.self.inside.controls.items c.self.inside.controls_drawn c.self.inside.states c.args.control c.args.on c.self.invariant
    (c.self.invariant.have_states c.args.control ∙ sym (sees_control c.self.inside.panels.items c.self.inside.panels_drawn c.self.inside.controls.items c.self.inside.controls_drawn c.self.inside.states c.args.control) ∙ there))

pub returns : goal.returns
returns c =
    rw (c.set.ensures, ← c.self.view_is)
    (set_done c.self.inside.panels.items c.self.inside.panels_drawn c.self.inside.controls.items c.self.inside.controls_drawn c.self.inside.states (record { control = c.args.control; on = c.args.on }))
