use Rattle.std.proofs.Common.{refl, sym, ◌∙◌}
use Rattle.arc_rules.proofs.Rows.{update_unknown, update_taken, update_done}
use Rattle.arc_rules.proofs.rules.Rules.update.Goals as goal

pub returns-in_default-clause-does : goal.returns-in_default-clause-does
returns-in_default-clause-does c plain stands =
    let here = rw (← c.self.view_is) at stands in
    let place = rw c.as_slice.ensures.value at c.place_of.ensures in
    rw c.not_found.ensures
    (update_unknown c.self.inside.rules.items c.self.inside.drawn plain c.args.gating c.args.rule c.args.name.now c.args.wait_ms _ here
    (sym place ∙ c.in_default.is))

pub returns-in-Some-other_holder_of-clause-does : goal.returns-in-Some-other_holder_of-clause-does
returns-in-Some-other_holder_of-clause-does c plain stands =
    let here = rw (← c.self.view_is) at stands in
    let place = rw c.as_slice.ensures.value at c.place_of.ensures in
    let found = rw c.as_slice-2.ensures.value at c.other_holder_of.ensures in
    rw c.name_taken.ensures
    (update_taken c.self.inside.rules.items c.self.inside.drawn plain c.args.gating c.args.rule c.args.name.now c.args.wait_ms _
    c.in-Some.place c.index.result.now c.index.result.now.spec.panel c.in-Some-other_holder_of.holder here
    (sym place ∙ c.in-Some.is) c.index.ensures refl (sym found ∙ c.in-Some-other_holder_of.is))

pub returns-clause-does : goal.returns-clause-does
returns-clause-does c plain stands =
    let here = rw (← c.self.view_is) at stands in
    let place = rw c.as_slice.ensures.value at c.place_of.ensures in
    let found = rw c.as_slice-2.ensures.value at c.other_holder_of.ensures in
    let becomes = rw c.in_ok-name.ensures at (c.rename.ensures c.index.result.now) in
    update_done c.self.inside.rules.items c.self.inside.drawn plain c.args.gating c.args.rule c.args.name.now c.args.wait_ms
    c.rename.new.rules.items c.in-Some.place c.index.result.now c.index.result.now.spec.panel here
    (sym place ∙ c.in-Some.is) c.index.ensures refl (sym found ∙ c.in_default-other_holder_of.is) becomes
