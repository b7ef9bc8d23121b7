use Rattle.std.proofs.Common.{◌==◌, ap, ◌∙◌}
use Rattle.std.specs.List.{list_any}
use Rattle.arc_rules.specs.declared.rules.Rules.{Rules}
use Rattle.arc_rules.specs.declared.kept.Kept.{Kept}
use Rattle.arc_rules.proofs.Standing.{has_stands}
use Rattle.arc_rules.proofs.rules.Rules.has.Goals as goal

pub returns : goal.returns
returns c plain stands =
    c.has.ensures
    ∙ ap (list_any (λ (r : Kept). r.rule.0 == c.args.rule.0)) (c.as_slice.ensures.value ∙ ap (λ (k : Rules). k.rules) c.self.view_is)
    ∙ has_stands c.args.self.now plain c.args.rule stands
