use Rattle.std.proofs.Common.{◌==◌, not, sym, ◌∙◌, arith}
use Rattle.std.proofs.lemmas.List.Elements.{All-filter}
use Rattle.arc_rules.specs.Kept.{IsTimely}
use Rattle.arc_rules.proofs.Rows.{remove_unknown, remove_done}
use Rattle.arc_rules.proofs.rules.Rules.remove.Goals as goal

pub returns-then-not-has-clause-does : goal.returns-then-not-has-clause-does
returns-then-not-has-clause-does c plain stands =
    let here = rw (← c.self.view_is) at stands in
    let unknown = rw c.as_slice.ensures.value at c.has.ensures in
    rw c.not_found.ensures
    (remove_unknown c.self.inside.rules.items c.self.inside.drawn plain c.args.rule _ here (sym unknown ∙ c.if-not-has.true))

pub invariant_of-self : goal.invariant_of-self
invariant_of-self c =
    record {
      timely = rw c.drop_rule.ensures.others (All-filter (λ r. not (r.rule.0 == c.args.rule.0)) IsTimely c.self.inside.rules.items c.self.invariant.timely);
      within_limit = omega arith;
    }

pub returns-clause-does : goal.returns-clause-does
returns-clause-does c plain stands =
    let here = rw (← c.self.view_is) at stands in
    let known = rw c.as_slice.ensures.value at c.has.ensures in
    remove_done c.self.inside.rules.items c.self.inside.drawn plain c.args.rule _ here (sym known ∙ c.if-not-has.false)
    c.drop_rule.ensures.others
