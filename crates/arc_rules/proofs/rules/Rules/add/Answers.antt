use Rattle.std.proofs.Common.{sym, ◌∙◌, arith}
use Rattle.std.proofs.lemmas.List.{length-append}
use Rattle.std.proofs.lemmas.List.Elements.{All-push}
use Rattle.arc_rules.specs.Kept.{IsTimely}
use Rattle.arc_rules.proofs.Rows.{add_full, add_taken, add_done}
use Rattle.arc_rules.proofs.rules.Rules.add.Goals as goal

pub returns-then-len-ge-MOST_RULES-clause-does : goal.returns-then-len-ge-MOST_RULES-clause-does
returns-then-len-ge-MOST_RULES-clause-does c plain stands =
    let here = rw (← c.self.view_is) at stands in
    add_full c.self.inside.rules.items c.self.inside.drawn plain c.args.spec.now _ _ here (omega arith) (omega arith)

pub returns-in-Some-clause-does : goal.returns-in-Some-clause-does
returns-in-Some-clause-does c plain stands =
    let here = rw (← c.self.view_is) at stands in
    let found = rw c.as_slice.ensures.value at c.holder_of.ensures in
    rw c.name_taken.ensures
    (add_taken c.self.inside.rules.items c.self.inside.drawn plain c.args.spec.now _ c.in-Some.holder here (omega arith)
    (sym found ∙ c.in-Some.is))

pub invariant_of-self-2 : goal.invariant_of-self-2
invariant_of-self-2 c =
    rw c.in_ok-push.ensures.items (record {
      timely = All-push IsTimely c.self.inside.rules.items _ c.self.invariant.timely tt;
      within_limit = omega (arith, length-append c.self.inside.rules.items);
    })

pub returns-clause-does : goal.returns-clause-does
returns-clause-does c plain stands =
    let here = rw (← c.self.view_is) at stands in
    let found = rw c.as_slice.ensures.value at c.holder_of.ensures in
    add_done c.self.inside.rules.items c.self.inside.drawn plain c.args.spec.now _ here (omega arith)
    (sym found ∙ c.in_default.is) (rw c.in_ok-spec.ensures at c.in_ok-push.ensures.items)
