use Rattle.std.proofs.Common.{◌≡◌, ◌≢◌, ◌<◌, [], IfErr, Result, sym, subst}
use Rattle.std.proofs.lemmas.Result.{err_from_is_err_and}
use Rattle.arc_bytes.specs.Five.{with}
use Rattle.arc_cluster.specs.Adopting.{OnlyNamedFailed}
use Rattle.arc_cluster.specs.declared.opening.OpenEnd.{OpenEnd}
use Rattle.arc_cluster.specs.declared.opening.OpenEnd.TheVariants as failed
use Rattle.arc_cluster.proofs.Openings.{Read, named_one, none_failed_more, read_one, there_more}
use Rattle.arc_cluster.proofs.loading.find_missing.Goals as goal

pub returns-in_err-look-clause-read : goal.returns-in_err-look-clause-read
returns-in_err-look-clause-read g c =
    let lt : c.loop-node.node < 5 = search in
    read_one g.D.Disk c.args.disks.now c.loop-node.disks c.loop-node.node c.look.new.disk lt c.loop-node.invariant.1
    (subst (λ d. Read g.D.Disk d c.look.new.disk) c.get_mut.ensures.value c.look.ensures.read)

pub loop-node-preserved : goal.loop-node-preserved
loop-node-preserved g c =
    let disk = g.D.Disk in
    let lt : c.loop-node.node < 5 = search in
    let k = c.loop-node.node in (
      there_more disk c.args.disks.now c.loop-node.disks k lt c.loop-node.invariant.1 c.loop-node.invariant.0
          (subst (λ d. disk.tells → disk.content d ≡ [] → ⊥) c.get_mut.ensures.value c.in_ok-look.ensures.there),
      read_one disk c.args.disks.now c.loop-node.disks k c.look.new.disk lt c.loop-node.invariant.1
          (subst (λ d. Read disk d c.look.new.disk) c.get_mut.ensures.value c.look.ensures.read),
      none_failed_more disk c.args.disks.now c.loop-node.disks k c.look.new.disk lt c.loop-node.invariant.2
          (subst (λ d. disk.faults c.look.new.disk ≡ disk.faults d) c.get_mut.ensures.value c.in_ok-look.ensures.no_fault),
    )

pub returns-in_err-look-clause-named : goal.returns-in_err-look-clause-named
returns-in_err-look-clause-named g c =
    let disk = g.D.Disk in
    let lt : c.loop-node.node < 5 = search in
    let e = c.in_err-look.field-0.0 in
    let p = err_from_is_err_and c.from_residual.result c.from_residual.ensures.1 in
    subst (λ (r : Result Unit OpenEnd). IfErr r (λ end. OnlyNamedFailed disk.faults c.args.disks.now (with c.loop-node.disks c.loop-node.node c.look.new.disk) end))
    (sym p.1)
    (subst (λ (end : OpenEnd). OnlyNamedFailed disk.faults c.args.disks.now (with c.loop-node.disks c.loop-node.node c.look.new.disk) end) (sym p.2)
    (named_one disk c.args.disks.now c.loop-node.disks c.loop-node.node c.look.new.disk e lt c.loop-node.invariant.2
    (subst (λ d. e ≢ failed.Disk c.loop-node.node → disk.faults c.look.new.disk ≡ disk.faults d)
    c.get_mut.ensures.value c.in_err-look.ensures.named)))
