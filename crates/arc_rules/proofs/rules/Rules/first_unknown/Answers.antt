use Rattle.std.proofs.Common.{◌==◌, Bool, List, not, find, ap, ◌∙◌}
use Rattle.std.specs.List.{list_any}
use Rattle.arc_ids.specs.declared.named_id.RuleId.{RuleId}
use Rattle.arc_rules.specs.Kept.{is_unknown}
use Rattle.arc_rules.specs.declared.rules.Rules.{Rules}
use Rattle.arc_rules.specs.declared.kept.Kept.{Kept}
use Rattle.arc_rules.proofs.Standing.{has_stands}
use Rattle.arc_rules.proofs.rules.Rules.first_unknown.Goals as goal

pub returns : goal.returns
unfolding is_unknown
returns c plain stands =
    c.copied.ensures
    ∙ c.first_unknown.ensures
    ∙ ap (λ (l : List Kept). find (λ r. not (list_any (λ k. k.rule.0 == r.0) l)) c.args.rules.now)
    (c.as_slice.ensures.value ∙ ap (λ (k : Rules). k.rules) c.self.view_is)
    ∙ ap (λ (h : RuleId → Bool). find (λ r. not (h r)) c.args.rules.now) (λ i r. has_stands c.args.self.now plain r stands i)
