use Rattle.std.proofs.Common.{rules, ◌==◌, not}
use Rattle.std.proofs.lemmas.Fn.{filter_same}
use Rattle.arc_rules.proofs.rules.drop_rule.Goals as goal

pub returns-clause-others : goal.returns-clause-others
returns-clause-others c =
    filter_same _ (λ r. not (r.rule.0 == c.args.rule.0)) _ (λ r b g called. (search rules, search rules)) _ _ c.retain.ensures.filtered
