use Rattle.std.proofs.Common.{refl}
use Rattle.std.proofs.lemmas.Result.{err_from_is_err_and}
use Rattle.arc_members.proofs.Steps.{stops}
use Rattle.arc_json.specs.Rules.{update_members}
use Rattle.arc_json.proofs.rule_ops.update_members.Goals as goal

pub returns-in_err-rule-clause-gives : goal.returns-in_err-rule-clause-gives
unfolding update_members
returns-in_err-rule-clause-gives c =
    let p = err_from_is_err_and c.from_residual.result c.from_residual.ensures.1 in
    rw (p.1, p.2) (stops c.in_err-rule.field-0.0 _ _ c.in_err-rule.ensures.gives)

pub returns-in_err-name-clause-gives : goal.returns-in_err-name-clause-gives
unfolding update_members
returns-in_err-name-clause-gives c =
    let p = err_from_is_err_and c.from_residual-in_err-name.result c.from_residual-in_err-name.ensures.1 in
    rw (c.in_ok-rule.ensures.gives, p.1, p.2) (stops c.in_err-name.field-0.0 _ _ c.in_err-name.ensures.gives)

pub returns-in_err-wait_ms-clause-gives : goal.returns-in_err-wait_ms-clause-gives
unfolding update_members
returns-in_err-wait_ms-clause-gives c =
    let p = err_from_is_err_and c.from_residual-in_err-wait_ms.result c.from_residual-in_err-wait_ms.ensures.1 in
    rw (c.in_ok-rule.ensures.gives, c.in_ok-name.ensures.gives, p.1, p.2) (stops c.in_err-wait_ms.field-0.0 _ _ c.in_err-wait_ms.ensures.gives)

pub returns-clause-gives : goal.returns-clause-gives
unfolding update_members
returns-clause-gives c = rw (c.in_ok-rule.ensures.gives, c.in_ok-name.ensures.gives, c.in_ok-wait_ms.ensures.gives) refl
