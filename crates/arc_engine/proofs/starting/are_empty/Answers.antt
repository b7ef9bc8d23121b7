use Rattle.std.proofs.Common.{◌≡◌, ◌<◌, [], subst}
use Rattle.arc_cluster.proofs.Openings.{Read, named_one, none_failed_more, read_one}
use Rattle.arc_engine.proofs.FiveDisks.{empty_more}
use Rattle.arc_engine.proofs.starting.are_empty.Goals as goal

pub returns-in-Ok-false-clause-read : goal.returns-in-Ok-false-clause-read
returns-in-Ok-false-clause-read g c =
    let lt : c.loop-node.node < 5 = search in
    read_one g.D.Disk c.args.disks.now c.loop-node.disks c.loop-node.node c.is_empty.new.disk lt c.loop-node.invariant.1
    (subst (λ d. Read g.D.Disk d c.is_empty.new.disk) c.get_mut.ensures.value c.is_empty.ensures.read)

pub returns-in-Err-clause-read : goal.returns-in-Err-clause-read
returns-in-Err-clause-read g c =
    let lt : c.loop-node.node < 5 = search in
    read_one g.D.Disk c.args.disks.now c.loop-node.disks c.loop-node.node c.is_empty.new.disk lt c.loop-node.invariant.1
    (subst (λ d. Read g.D.Disk d c.is_empty.new.disk) c.get_mut.ensures.value c.is_empty.ensures.read)

pub loop-node-preserved : goal.loop-node-preserved
loop-node-preserved g c =
    let disk = g.D.Disk in
    let lt : c.loop-node.node < 5 = search in
    let k = c.loop-node.node in
    let empty : disk.tells → disk.content c.get_mut.result.now ≡ [] =
    λ told. (c.in-Ok-true.ensures.empty told).0 c.in-Ok-true.field-0-test in (
      empty_more disk c.args.disks.now c.loop-node.disks c.loop-node.invariant.1 k lt c.loop-node.invariant.0
          (subst (λ d. disk.tells → disk.content d ≡ []) c.get_mut.ensures.value empty),
      read_one disk c.args.disks.now c.loop-node.disks k c.is_empty.new.disk lt c.loop-node.invariant.1
          (subst (λ d. Read disk d c.is_empty.new.disk) c.get_mut.ensures.value c.is_empty.ensures.read),
      none_failed_more disk c.args.disks.now c.loop-node.disks k c.is_empty.new.disk lt c.loop-node.invariant.2
          (subst (λ d. disk.faults c.is_empty.new.disk ≡ disk.faults d) c.get_mut.ensures.value c.in-Ok-true.ensures.no_fault),
    )

pub returns-in-Err-clause-named : goal.returns-in-Err-clause-named
returns-in-Err-clause-named g c =
    let lt : c.loop-node.node < 5 = search in
    named_one g.D.Disk c.args.disks.now c.loop-node.disks c.loop-node.node c.is_empty.new.disk c.in-Err.end lt c.loop-node.invariant.2
    (λ other. absurd (other c.in-Err.ensures.end.0))
