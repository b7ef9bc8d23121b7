use Rattle.std.proofs.Common.{[]}
use Rattle.std.proofs.lemmas.Result.{err_from_is_err_and}
use Rattle.arc_command.specs.Reader.{items_at}
use Rattle.arc_command.proofs.Items.{goes_on, ends, is_done}
use Rattle.arc_command.proofs.field.read_items.Goals as goal

pub returns-in_err-item : goal.returns-in_err-item
returns-in_err-item g c =
    let p = err_from_is_err_and c.from_residual-in_err-item.result c.from_residual-in_err-item.ensures.1 in
    rw (p.1, p.2) (ends g.T.Field.reading c.in_err-item.field-0.0 c.loop.items.items c.args.count c.loop.counter c.args.bytes.now c.loop.at (items_at g.T.Field.reading [] c.args.count c.args.bytes.now c.args.start) _ c.as_slice.ensures.value c.loop-test.true c.in_err-item.ensures c.loop.invariant)

pub loop-preserved : goal.loop-preserved
loop-preserved g c =
    rw c.in_ok-push.ensures.items (goes_on g.T.Field.reading c.loop.items.items c.args.count c.loop.counter c.args.bytes.now c.loop.at c.in_ok-item.item c.in_ok-item.after (items_at g.T.Field.reading [] c.args.count c.args.bytes.now c.args.start) _ c.as_slice.ensures.value c.loop-test.true c.in_ok-item.ensures c.loop.invariant)

pub returns : goal.returns
returns g c =
    rw c.of.ensures (is_done g.T.Field.reading c.loop.items.items c.args.count c.loop.counter c.args.bytes.now c.loop.at (items_at g.T.Field.reading [] c.args.count c.args.bytes.now c.args.start) c.loop-test.false c.loop.invariant)
