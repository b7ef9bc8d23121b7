use Rattle.std.proofs.Common.{refl}
use Rattle.std.proofs.lemmas.Result.{err_from_is_err_and}
use Rattle.arc_members.proofs.Steps.{stops}
use Rattle.arc_json.specs.Rules.{delete_safety_rule}
use Rattle.arc_json.proofs.rule_ops.delete_safety_rule.Goals as goal

pub returns-in_err-rule-clause-gives : goal.returns-in_err-rule-clause-gives
unfolding delete_safety_rule
returns-in_err-rule-clause-gives c =
    let p = err_from_is_err_and c.from_residual.result c.from_residual.ensures.1 in
    rw (p.1, p.2) (stops c.in_err-rule.field-0.0 _ _ c.in_err-rule.ensures.gives)

pub returns-clause-gives : goal.returns-clause-gives
unfolding delete_safety_rule
returns-clause-gives c = rw (c.in_ok-rule.ensures.gives) refl
