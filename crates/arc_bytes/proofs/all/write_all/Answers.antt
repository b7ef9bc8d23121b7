-- What one write took stands behind the prefix that went out before.
use Rattle.std.proofs.Common.{arith, ℕ, ◌+◌, length-take, length-drop}
use Rattle.std.proofs.lemmas.List.{take_rest}
use Rattle.arc_bytes.proofs.Pieces.{appends_more}
use Rattle.arc_bytes.proofs.all.write_all.Goals as goal

pub loop-done-preserved : goal.loop-done-preserved
loop-done-preserved g c = record {
  within = grind (arith, length-take {A = ℕ}, length-drop {A = ℕ});
  out = appends_more _ _ _ _ _ _ _ (take_rest c.args.bytes.now c.loop-done.done) c.loop-done.invariant.out c.in-Ok.ensures.writes;
  later = grind arith;
}

pub returns-in-Err-clause-writes : goal.returns-in-Err-clause-writes
returns-in-Err-clause-writes g c =
    let front = c.in-Err.ensures.writes in
    (c.loop-done.done + front.0, appends_more _ _ _ _ _ _ _ (take_rest c.args.bytes.now c.loop-done.done) c.loop-done.invariant.out front.1)
