use Rattle.std.proofs.Common.{ap, ◌∙◌}
use Rattle.std.specs.List.{filter_map}
use Rattle.std.proofs.lemmas.Result.{IfOk-weaker}
use Rattle.arc_data.specs.States.{is_on}
use Rattle.arc_rules.specs.Kept.{forbids_kept}
use Rattle.arc_rules.specs.declared.rules.Rules.{Rules}
use Rattle.arc_rules.proofs.Standing.{forbidding_stands}
use Rattle.arc_rules.proofs.rules.Rules.forbidding.Goals as goal

pub returns : goal.returns
returns c plain stands =
    IfOk-weaker c.forbidding.result _ _ (λ found is.
    is
    ∙ ap (filter_map (forbids_kept c.args.batch.now (is_on c.args.before.now) c.args.now))
    (c.as_slice.ensures.value ∙ ap (λ (k : Rules). k.rules) c.self.view_is)
    ∙ forbidding_stands c.args.self.now plain c.args.batch.now (is_on c.args.before.now) c.args.now stands) c.forbidding.ensures
