use Rattle.std.proofs.Common.{◌∙◌}
use Rattle.arc_rules.proofs.Rows.{in_panel_done}
use Rattle.arc_rules.proofs.rules.Rules.in_panel.Goals as goal

pub returns : goal.returns
returns c plain stands =
    let here = rw (← c.self.view_is) at stands in
    let items = rw c.as_slice.ensures.value at c.in_ok-items_in.ensures in
    c.of.ensures ∙ items ∙ in_panel_done c.self.inside.rules.items c.self.inside.drawn plain c.args.panel here
