use Rattle.std.proofs.Common.{◌<◌, length, refl, sym, ◌∙◌, arith}
use Rattle.arc_data.specs.States.{is_on}
use Rattle.arc_rules.specs.Kept.{forbids_kept}
use Rattle.arc_plain.proofs.Lists.{filter_map_some, filter_map_none}
use Rattle.arc_rules.proofs.forbid.forbidding.Goals as goal
use Rattle.arc_rules.proofs.forbid.forbidding.Goals.{in-Some+in_ok-push, in_default}

pub loop-rule-preserved : goal.loop-rule-preserved
loop-rule-preserved c =
    let forbids = forbids_kept c.args.batch.now (is_on c.args.before.now) c.args.now in
    let within : c.loop-rule.rule-index < length c.args.rules.now = omega arith in
    elim c.match-forbids.branch [
      | in-Some+in_ok-push w ↦
          let more = filter_map_some forbids c.args.rules.now c.loop-rule.rule-index c.rule-item.result w.in-Some.forbidden within c.rule-item.is (sym c.forbids.ensures ∙ w.in-Some.is) in
          rw (w.found-is, w.in_ok-push.ensures.items, more, c.loop-rule.invariant) refl
      | in_default w ↦
          let more = filter_map_none forbids c.args.rules.now c.loop-rule.rule-index c.rule-item.result within c.rule-item.is (sym c.forbids.ensures ∙ w.in_default.is) in
          rw (w.found-is, more) c.loop-rule.invariant
    ]
