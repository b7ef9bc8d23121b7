use Rattle.std.proofs.Common.{◌<◌, length, arith}
use Rattle.std.proofs.lemmas.List.Edits.{map_over_more}
use Rattle.arc_data.specs.declared.practice.Ending.TheVariants.{Alarm}
use Rattle.arc_plain.specs.Practice.{ended_where, fails_by}
use Rattle.arc_practice.proofs.runs.fail.Goals as goal

pub loop-run-preserved : goal.loop-run-preserved
loop-run-preserved c =
    let xs = c.deref_mut-run-items.result.now in
    let within : c.loop-run.run-index < length xs = omega arith in
    rw (c.end.ensures, c.is_among-affected.ensures, c.as_slice.ensures, ← c.run-item.is)
    (map_over_more (ended_where (fails_by c.args.alarm.now) Alarm c.args.now) xs c.loop-run.run-items c.loop-run.run-index c.run-item.result
    within c.loop-run.invariant c.run-item.is)
