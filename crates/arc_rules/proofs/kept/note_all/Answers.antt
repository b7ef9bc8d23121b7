use Rattle.std.proofs.Common.{◌<◌, length, arith}
use Rattle.std.proofs.lemmas.List.Edits.{map_over_more}
use Rattle.arc_rules.specs.Kept.{noted}
use Rattle.arc_rules.proofs.kept.note_all.Goals as goal

pub loop-rule-preserved : goal.loop-rule-preserved
loop-rule-preserved c =
    let xs = c.deref_mut-rule-items.result.now in
    let within : c.loop-rule.rule-index < length xs = omega arith in
    rw (c.note.ensures, ← c.rule-item.is)
    (map_over_more (noted c.args.changed.now c.args.now) xs c.loop-rule.rule-items c.loop-rule.rule-index c.rule-item.result
    within c.loop-rule.invariant c.rule-item.is)
