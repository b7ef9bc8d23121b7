use Rattle.std.proofs.Common.{arith, sym}
use Rattle.std.proofs.lemmas.Result.{err_from_is_err_and}
use Rattle.std.specs.Vec.{vec_capacity}
use Rattle.arc_command.proofs.Putting.{no_room}
use Rattle.arc_command.proofs.field.put_items.Goals as goal

pub returns-in_err-put-clause-adds : goal.returns-in_err-put-clause-adds
returns-in_err-put-clause-adds g c =
    let p = err_from_is_err_and c.from_residual.result c.from_residual.ensures.1 in
    rw p.1 (record {
      all = tt;
      room = no_room g.T.Field.spelling c.args.out.now.items c.loop-item.out.items c.args.items.now c.loop-item.item-index c.item-item.result (vec_capacity c.args.out.now) c.loop-item-test.true (sym c.item-item.is) c.loop-item.invariant.0 (omega (arith, c.loop-item.invariant.1, c.in_err-put.ensures.adds.room));
      capacity = omega (arith, c.loop-item.invariant.1, c.in_err-put.ensures.adds.capacity);
    })
