use Rattle.std.proofs.Common.{refl, sym, ◌∙◌, ap, subst, arith}
use Rattle.std.specs.Prelude.{OnErr}
use Rattle.arc_script.specs.declared.step.Step.TheVariants.{Restart}
use Rattle.arc_node.specs.Node.{disk_in}
use Rattle.arc_drill.specs.Steps.{Ends}
use Rattle.arc_drill.specs.Line.{text}
use Rattle.arc_drill.specs.Line.Line.{SlotsAre}
use Rattle.arc_drill.proofs.Disks.{since_crash, since_same}
use Rattle.arc_drill.proofs.Fitness.{kept_fit}
use Rattle.arc_drill.proofs.Results.{if_ok_weaker, on_err, on_ok}
use Rattle.arc_drill.proofs.Stepping.{crash_done, crash_ends, ends_same, slots_done}
use Rattle.arc_drill.proofs.step.do_step.Goals as goal

pub returns-in-Slots-clause-fit : goal.returns-in-Slots-clause-fit
returns-in-Slots-clause-fit g c = on_ok c.numbered.result _ c.requires.fit

pub returns-in-Slots-clause-since : goal.returns-in-Slots-clause-since
returns-in-Slots-clause-since g c =
    let disk = g.D.Disk in since_same disk.moment disk.faults disk.stops_in disk.is_tame (disk_in c.args.node.now) (disk_in c.args.node.now) refl

pub returns-in-Slots-clause-does : goal.returns-in-Slots-clause-does
returns-in-Slots-clause-does g c = λ told.
    rw c.in-Slots.is
    (if_ok_weaker c.numbered.result _ _ (λ line is. slots_done g.D.Disk.faults c.args.node.now c.in-Slots.n line.items (is ∙ ap (λ n. text (SlotsAre n)) c.from.ensures)) c.numbered.ensures)

pub returns-in-Slots-clause-ends : goal.returns-in-Slots-clause-ends
returns-in-Slots-clause-ends g c = λ told. on_err c.numbered.result _ (ends_same g.D.Disk.faults c.args.node.now _)

pub returns-in-Crash-clause-fit : goal.returns-in-Crash-clause-fit
returns-in-Crash-clause-fit g c =
    on_ok c.fixed.result _ (kept_fit c.args.node.now c.crash.new.self c.args.state.now c.crash.ensures.same c.crash.ensures.kept c.requires.fit)

pub returns-in-Crash-clause-since : goal.returns-in-Crash-clause-since
returns-in-Crash-clause-since g c =
    let disk = g.D.Disk in
    since_crash disk.moment disk.faults disk.stops_in disk.is_tame (disk_in c.args.node.now) (disk_in c.crash.new.self) c.crash.ensures.no_call c.crash.ensures.stop

pub returns-in-Crash-clause-does : goal.returns-in-Crash-clause-does
returns-in-Crash-clause-does g c = λ told.
    rw c.in-Crash.is
    (if_ok_weaker c.fixed.result _ _
    (λ line is. crash_done g.D.Disk.faults c.args.node.now c.crash.new.self c.in-Crash.node line.items c.crash.ensures.not_up c.crash.ensures.same c.crash.ensures.kept c.crash.ensures.no_call.count is) c.fixed.ensures)

pub returns-in-Crash-clause-ends : goal.returns-in-Crash-clause-ends
returns-in-Crash-clause-ends g c = λ told.
    let count = c.crash.ensures.no_call.count in
    on_err c.fixed.result _ (crash_ends g.D.Disk.faults c.args.node.now c.crash.new.self _ c.crash.ensures.kept (omega arith))

pub returns-in-Restart-clause-ends : goal.returns-in-Restart-clause-ends
returns-in-Restart-clause-ends g c = λ told.
    let first = rw c.in-Restart.is at c.requires.valid in
    let is = c.in-Restart.is ∙ ap Restart first in
    subst (λ s. OnErr c.restart.result (Ends g.D.Disk.faults c.args.node.now s c.restart.new.node)) (sym is) (c.restart.ensures.ends told)
