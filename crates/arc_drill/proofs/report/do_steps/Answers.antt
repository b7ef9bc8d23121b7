use Rattle.std.proofs.Common.{refl, arith}
use Rattle.arc_node.specs.Node.{disk_in}
use Rattle.arc_drill.proofs.Disks.{since_same, since_then}
use Rattle.arc_drill.proofs.Reporting.{created_fit, reported_none, reported_more, wrote_all, wrote_front, wrote_some}
use Rattle.arc_drill.proofs.Starts.{same_then}
use Rattle.arc_drill.proofs.Writing.{appends_same, front_same}
use Rattle.arc_drill.proofs.report.do_steps.Goals as goal

pub loop-step-init : goal.loop-step-init
loop-step-init g c =
    let disk = g.D.Disk in
    let node = c.args.node.now in (
      c.requires.in_order,
      created_fit node _ c.args.state.now c.requires.created c.requires.fresh,
      since_same disk.moment disk.faults disk.stops_in disk.is_tame (disk_in node) (disk_in node) refl,
      reported_none disk.tells disk.faults c.args.steps.now node (g.K.Sink.taken c.args.out.now) c.requires.created,
      omega arith,
      record { number = refl; slots = refl },
      c.requires.in_place,
    )

pub loop-step-preserved : goal.loop-step-preserved
loop-step-preserved g c =
    let disk = g.D.Disk in
    let taken = g.K.Sink.taken in
    let begun = disk_in c.args.node.now in
    let invariant = c.loop-step.invariant in
    let sink = invariant.4 in
    let cause = c.in-Ok-write_all.ensures.cause.later in
    let written = appends_same (taken c.loop-step.out) (taken c.write_all.new.out) _ _ c.deref.ensures.value c.in-Ok-write_all.ensures.writes in (
      c.do_step.ensures.in_order,
      c.in-Ok.ensures.fit,
      since_then disk.moment disk.faults disk.stops_in disk.is_tame begun (disk_in c.loop-step.node) (disk_in c.do_step.new.node) invariant.2 c.do_step.ensures.since,
      reported_more disk.tells disk.faults begun c.args.steps.now c.loop-step.step-index c.loop-step.node c.do_step.new.node (taken c.args.out.now) (taken c.loop-step.out) (taken c.write_all.new.out)
          c.step-item.result _ invariant.3 (omega arith) c.step-item.is c.in-Ok.ensures.does written,
      omega arith,
      same_then c.args.node.now c.loop-step.node c.do_step.new.node invariant.5 c.do_step.ensures.same,
      c.do_step.ensures.in_place,
    )

pub returns-in_default-clause-wrote : goal.returns-in_default-clause-wrote
returns-in_default-clause-wrote g c =
    let disk = g.D.Disk in
    let taken = g.K.Sink.taken in
    wrote_some disk.tells disk.faults (disk_in c.args.node.now) c.args.steps.now c.loop-step.step-index c.loop-step.node c.do_step.new.node (taken c.args.out.now) (taken c.loop-step.out)
    c.step-item.result (omega arith) c.step-item.is c.loop-step.invariant.3 c.in_default.ensures.ends

pub returns-in_default-clause-since : goal.returns-in_default-clause-since
returns-in_default-clause-since g c =
    let disk = g.D.Disk in
    since_then disk.moment disk.faults disk.stops_in disk.is_tame (disk_in c.args.node.now) (disk_in c.loop-step.node) (disk_in c.do_step.new.node) c.loop-step.invariant.2 c.do_step.ensures.since

pub returns-in_default-clause-same : goal.returns-in_default-clause-same
returns-in_default-clause-same g c =
    same_then c.args.node.now c.loop-step.node c.do_step.new.node c.loop-step.invariant.5 c.do_step.ensures.same

pub returns-in-Err-clause-same : goal.returns-in-Err-clause-same
returns-in-Err-clause-same g c =
    same_then c.args.node.now c.loop-step.node c.do_step.new.node c.loop-step.invariant.5 c.do_step.ensures.same

pub returns-in-Err-clause-wrote : goal.returns-in-Err-clause-wrote
returns-in-Err-clause-wrote g c =
    let disk = g.D.Disk in
    let taken = g.K.Sink.taken in
    let written = front_same (taken c.loop-step.out) (taken c.write_all.new.out) _ _ c.deref.ensures.value c.in-Err.ensures.writes in
    wrote_front disk.tells disk.faults (disk_in c.args.node.now) c.args.steps.now c.loop-step.step-index c.loop-step.node c.do_step.new.node (taken c.args.out.now) (taken c.loop-step.out)
    (taken c.write_all.new.out) c.step-item.result _ c.loop-step.invariant.3 (omega arith) c.step-item.is c.in-Ok.ensures.does written

pub returns-in-Err-clause-since : goal.returns-in-Err-clause-since
returns-in-Err-clause-since g c =
    let disk = g.D.Disk in
    since_then disk.moment disk.faults disk.stops_in disk.is_tame (disk_in c.args.node.now) (disk_in c.loop-step.node) (disk_in c.do_step.new.node) c.loop-step.invariant.2 c.do_step.ensures.since

pub returns-clause-wrote : goal.returns-clause-wrote
returns-clause-wrote g c =
    let disk = g.D.Disk in
    let taken = g.K.Sink.taken in
    wrote_all disk.tells disk.faults (disk_in c.args.node.now) c.args.steps.now c.loop-step.step-index c.loop-step.node (taken c.args.out.now) (taken c.loop-step.out) (omega arith) c.loop-step.invariant.3
