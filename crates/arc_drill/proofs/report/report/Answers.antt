use Rattle.std.proofs.Common.{None, Ok, refl, sym, subst}
use Rattle.arc_bytes.specs.Counts.{HasRisen}
use Rattle.arc_journal.specs.Image.{records_of}
use Rattle.arc_node.specs.Node.{disk_in}
use Rattle.arc_node.specs.Starting.{IsCreated}
use Rattle.arc_drill.specs.Drilled.{LastsBy, Wrote}
use Rattle.arc_drill.proofs.Disks.{since_opened, since_same}
use Rattle.arc_drill.proofs.Reporting.{no_entry, wrote_none}
use Rattle.arc_drill.proofs.Starts.{leaves_journal, leaves_possible, reads_possible}
use Rattle.arc_drill.proofs.Whole.{lasts_none, lasts_report}
use Rattle.arc_drill.proofs.report.report.Goals as goal

pub returns-in_default-clause-wrote : goal.returns-in_default-clause-wrote
returns-in_default-clause-wrote g c = λ told.
    let disk = g.D.Disk in
    wrote_none (HasRisen (disk.faults c.args.disk) (disk.faults c.args.disk)) (records_of (disk.content c.args.disk)) (g.K.Sink.taken c.args.out.now) (Ok c.args.steps.now)
    (no_entry (c.requires.empty told))

pub returns-in_default-clause-since : goal.returns-in_default-clause-since
returns-in_default-clause-since g c =
    let disk = g.D.Disk in since_same disk.moment disk.faults disk.stops_in disk.is_tame c.args.disk c.args.disk refl

pub returns-in-Ok-create-clause-wrote : goal.returns-in-Ok-create-clause-wrote
returns-in-Ok-create-clause-wrote g c = λ told.
    let disk = g.D.Disk in
    let node = c.do_steps-status.new.node in
    let begun = since_opened disk.moment disk.faults disk.stops_in disk.is_tame 6 c.args.disk (disk_in c.in-Ok-create.node) None c.in-Ok-create.ensures.calls in
    subst (λ d. Wrote (HasRisen (disk.faults c.args.disk) (disk.faults d)) (records_of (disk.content d)) (g.K.Sink.taken c.args.out.now) (g.K.Sink.taken c.do_steps-status.new.out) c.do_steps-status.result (Ok c.args.steps.now))
    (sym c.give_back.ensures)
    (c.do_steps-status.ensures.wrote told (disk.faults c.args.disk) begun.later (records_of (disk.content (disk_in node)))
    (reads_possible disk.tells disk.content disk.may_leave g.met.D.Disk.reads_as_left node c.do_steps-status.ensures.in_order told))

pub returns-in_default-clause-lasting : goal.returns-in_default-clause-lasting
returns-in_default-clause-lasting g c = λ told image left.
    let disk = g.D.Disk in
    lasts_none (HasRisen (disk.faults c.args.disk) (disk.faults c.args.disk)) image (g.K.Sink.taken c.args.out.now) (Ok c.args.steps.now)

pub returns-in-Ok-create-clause-lasting : goal.returns-in-Ok-create-clause-lasting
returns-in-Ok-create-clause-lasting g c = λ told image left.
    let disk = g.D.Disk in
    let new = c.in-Ok-create.node in
    let node = c.do_steps-status.new.node in
    let failed = HasRisen (disk.faults c.args.disk) (disk.faults (disk_in node)) in
    let order = c.do_steps-status.ensures.in_order in
    let begun = since_opened disk.moment disk.faults disk.stops_in disk.is_tame 6 c.args.disk (disk_in new) None c.in-Ok-create.ensures.calls in
    let created = subst (IsCreated new 0) c.slots_of.ensures.value c.in-Ok-create.ensures.created in
    let left_of_it = subst (λ d. disk.may_leave d image) c.give_back.ensures left in
    let journal = leaves_journal disk.tells disk.content disk.may_leave node new c.args.steps.now created c.do_steps-status.ensures.same order told image left_of_it in
    let wrote = c.do_steps-status.ensures.wrote told (disk.faults c.args.disk) begun.later (records_of image)
    (leaves_possible disk.tells disk.content disk.may_leave node order told image left_of_it) in
    subst (λ d. LastsBy (HasRisen (disk.faults c.args.disk) (disk.faults d)) image (g.K.Sink.taken c.args.out.now) (g.K.Sink.taken c.do_steps-status.new.out) c.do_steps-status.result (Ok c.args.steps.now))
    (sym c.give_back.ensures)
    (lasts_report failed image (g.K.Sink.taken c.args.out.now) (g.K.Sink.taken c.do_steps-status.new.out) c.do_steps-status.result c.args.steps.now journal wrote)
