use Rattle.std.proofs.Common.{arith}
use Rattle.std.proofs.lemmas.Result.{err_from_is_err_and}
use Rattle.serde_json.specs.View.{view}
use Rattle.arc_members.specs.Lists.{each}
use Rattle.arc_members.proofs.Items.{all_and_one, ends, goes_on, is_done, one_more, split}
use Rattle.arc_members.proofs.list.each.Goals as goal

pub returns-in_err-value-clause-gives : goal.returns-in_err-value-clause-gives
returns-in_err-value-clause-gives g c =
    let whole = split c.loop-rest.rest.now c.item-item.result c.in-len1-up.len_at_least c.item-item.is in
    let p = err_from_is_err_and c.from_residual.result c.from_residual.ensures.1 in
    rw (p.1, p.2) (ends g.K.Kind.reading view _ c.loop-rest.read.items c.loop-rest.rest.now c.item-item.result _ (each g.K.Kind.reading _) whole c.in_err-value.ensures.gives c.loop-rest.invariant.so_far)

pub loop-rest-preserved : goal.loop-rest-preserved
loop-rest-preserved g c =
    let whole = split c.loop-rest.rest.now c.item-item.result c.in-len1-up.len_at_least c.item-item.is in
    record {
      so_far = rw c.in_ok-push.ensures.items (goes_on g.K.Kind.reading view c.loop-rest.read.items c.loop-rest.rest.now c.item-item.result _ c.in_ok-value.value (each g.K.Kind.reading _) whole c.in_ok-value.ensures.gives c.loop-rest.invariant.so_far);
      within = rw c.in_ok-push.ensures.items (all_and_one g.K.Kind.Holds c.loop-rest.read.items c.in_ok-value.value c.loop-rest.invariant.within c.in_ok-value.ensures.within);
      count = rw c.in_ok-push.ensures.items (one_more c.loop-rest.read.items c.in_ok-value.value c.loop-rest.rest.now c.item-item.result _ _ whole c.loop-rest.invariant.count);
    }

pub returns-clause-gives : goal.returns-clause-gives
returns-clause-gives g c =
    rw c.of.ensures (is_done g.K.Kind.reading view c.loop-rest.read.items c.loop-rest.rest.now _ (omega arith) c.loop-rest.invariant.so_far)
