use Rattle.std.proofs.Common.{◌<◌, IfErr, Result, sym, subst}
use Rattle.std.proofs.lemmas.Result.{err_from_is_err_and}
use Rattle.arc_bytes.specs.Five.{with}
use Rattle.arc_cluster.specs.Adopting.{OnlyNamedFailed}
use Rattle.arc_cluster.specs.Nodes.{disks_in}
use Rattle.arc_cluster.specs.declared.opening.OpenEnd.{OpenEnd}
use Rattle.arc_cluster.proofs.Wakings.{awake_more, began_more, named_start, order_more, same_behind}
use Rattle.arc_cluster.proofs.waking.wake_all.Goals as goal

pub returns-in_err-wake_one-clause-start : goal.returns-in_err-wake_one-clause-start
returns-in_err-wake_one-clause-start g c =
    let lt : c.loop-node.node < 5 = search in
    let so_far = c.loop-node.invariant in
    began_more g.D.Disk c.args.nodes.now c.loop-node.nodes c.loop-node.node c.get_mut.result.now c.wake_one.new.node lt
    c.get_mut.ensures.value so_far.2 so_far.3 c.wake_one.ensures.start

pub loop-node-preserved : goal.loop-node-preserved
loop-node-preserved g c =
    let disk = g.D.Disk in
    let lt : c.loop-node.node < 5 = search in
    let so_far = c.loop-node.invariant in
    let first = c.args.nodes.now in
    let mid = c.loop-node.nodes in
    let k = c.loop-node.node in
    let given = c.get_mut.result.now in
    let next = c.wake_one.new.node in
    let is = c.get_mut.ensures.value in
    let awake = c.in_ok-wake_one.ensures.awake in (
      order_more disk first mid k given next lt is so_far.2 so_far.0 c.wake_one.ensures.in_order awake,
      awake_more disk first mid k given next lt is so_far.2 so_far.1 awake,
      same_behind disk first mid k given next lt is so_far.2,
      began_more disk first mid k given next lt is so_far.2 so_far.3 c.wake_one.ensures.start,
    )

pub returns-in_err-wake_one-clause-named : goal.returns-in_err-wake_one-clause-named
returns-in_err-wake_one-clause-named g c =
    let disk = g.D.Disk in
    let lt : c.loop-node.node < 5 = search in
    let so_far = c.loop-node.invariant in
    let new = with c.loop-node.nodes c.loop-node.node c.wake_one.new.node in
    let p = err_from_is_err_and c.from_residual.result c.from_residual.ensures.1 in
    subst (λ (r : Result Unit OpenEnd). IfErr r (λ end. OnlyNamedFailed disk.faults (disks_in c.args.nodes.now) (disks_in new) end)) (sym p.1)
    (subst (λ (end : OpenEnd). OnlyNamedFailed disk.faults (disks_in c.args.nodes.now) (disks_in new) end) (sym p.2)
    (named_start disk c.args.nodes.now c.loop-node.nodes c.loop-node.node c.get_mut.result.now c.wake_one.new.node lt
    c.get_mut.ensures.value so_far.2 so_far.1 c.in_err-wake_one.field-0.0 c.in_err-wake_one.ensures.named))
