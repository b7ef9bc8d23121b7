-- Where the right one ends, all so far is in common.
use Rattle.std.proofs.Common.{◌≤◌, length, arith}
use Rattle.arc_journal.proofs.Commons.{common_ends_right}
use Rattle.arc_journal.proofs.reading.common.Goals as goal

pub returns-then-i-right : goal.returns-then-i-right
returns-then-i-right c =
    let past : length c.args.right.now ≤ c.loop-i.i = omega (arith, c.if-i-right.true) in
    omega (arith, c.loop-i.invariant.rest, common_ends_right c.args.left.now c.args.right.now c.loop-i.i past)
