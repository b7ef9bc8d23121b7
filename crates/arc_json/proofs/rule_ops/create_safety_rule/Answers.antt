use Rattle.std.proofs.Common.{◌∙◌}
use Rattle.arc_json.specs.Rules.{create_safety_rule}
use Rattle.arc_json.proofs.Told.{told_is}
use Rattle.arc_json.proofs.rule_ops.create_safety_rule.Goals as goal

pub returns-clause-gives : goal.returns-clause-gives
unfolding create_safety_rule
returns-clause-gives c =
    let assertion = told_is c.given-assertion.result ∙ c.given-assertion.ensures in
    let gate = told_is c.given-gate.result ∙ c.given-gate.ensures in
    rw (← assertion, ← gate) c.rule_of.ensures.gives
