use Rattle.std.proofs.Common.{◌-◌, ◌<◌, drop, length, arith, ◌∙◌}
use Rattle.arc_batch.proofs.Commits.{known_at, set_more, set_none, still_there}
use Rattle.arc_batch.proofs.batch.set_all.Goals as goal

pub set-requires : goal.set-requires
set-requires c =
    let within : c.loop-i.i - 1 < length c.args.entries.now = omega arith in
    rw c.loop-i.invariant
    (still_there c.args.panels.now (drop c.loop-i.i c.args.entries.now) _
    ∙ known_at c.args.panels.now c.args.entries.now (c.loop-i.i - 1) _ c.requires within)

pub loop-i-init : goal.loop-i-init
loop-i-init c = set_none c.args.entries.now c.args.panels.now

pub loop-i-preserved : goal.loop-i-preserved
loop-i-preserved c =
    set_more c.args.entries.now c.args.panels.now c.loop-i.panels c.set.new.self c.loop-i.i _ (omega arith) (omega arith)
    c.loop-i.invariant c.set.ensures
