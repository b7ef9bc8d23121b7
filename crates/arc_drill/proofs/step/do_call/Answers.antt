use Rattle.std.proofs.Common.{◌<◌, length, refl, sym, ◌∙◌, ap, subst, arith}
use Rattle.arc_node.specs.Node.{disk_in, kept, slots_in}
use Rattle.arc_voting.specs.Lists.{applied}
use Rattle.arc_voting.proofs.Uses.{applied_length}
use Rattle.std.specs.Prelude.{OnErr}
use Rattle.arc_data.specs.declared.command.Command.{Command}
use Rattle.arc_drill.specs.Steps.{Ends, asked}
use Rattle.arc_drill.specs.Telling.{IsDrawn}
use Rattle.arc_drill.proofs.Disks.{since_same}
use Rattle.arc_drill.proofs.Fitness.{asked_is, fit_count}
use Rattle.arc_drill.proofs.Results.{if_ok_weaker, on_err, on_ok}
use Rattle.arc_drill.proofs.Stepping.{down_done, ends_same, full_done}
use Rattle.arc_drill.proofs.step.do_call.Goals as goal

pub returns-then-length-from-clause-fit : goal.returns-then-length-from-clause-fit
returns-then-length-from-clause-fit g c = on_ok c.numbered.result _ c.requires.fit

pub returns-then-length-from-clause-since : goal.returns-then-length-from-clause-since
returns-then-length-from-clause-since g c =
    let disk = g.D.Disk in since_same disk.moment disk.faults disk.stops_in disk.is_tame (disk_in c.args.node.now) (disk_in c.args.node.now) refl

pub returns-then-length-from-clause-does : goal.returns-then-length-from-clause-does
returns-then-length-from-clause-does g c = λ told.
    let counted = c.count-length.ensures ∙ fit_count c.args.node.now c.args.state.now c.requires.fit in
    if_ok_weaker c.numbered.result _ _
    (λ line is. full_done g.D.Disk.faults c.args.node.now 0 c.args.at_ms c.args.token c.args.op.now c.count-length.result line.items counted (omega (arith, c.if-length-from.true, c.from.ensures, c.max_slots.ensures)) is) c.numbered.ensures

pub returns-then-length-from-clause-ends : goal.returns-then-length-from-clause-ends
returns-then-length-from-clause-ends g c = λ told. on_err c.numbered.result _ (ends_same g.D.Disk.faults c.args.node.now _)

pub returns-then-not-is_up-clause-fit : goal.returns-then-not-is_up-clause-fit
returns-then-not-is_up-clause-fit g c = on_ok c.fixed.result _ c.requires.fit

pub returns-then-not-is_up-clause-since : goal.returns-then-not-is_up-clause-since
returns-then-not-is_up-clause-since g c =
    let disk = g.D.Disk in since_same disk.moment disk.faults disk.stops_in disk.is_tame (disk_in c.args.node.now) (disk_in c.args.node.now) refl

pub returns-then-not-is_up-clause-does : goal.returns-then-not-is_up-clause-does
returns-then-not-is_up-clause-does g c = λ told.
    let node = c.args.node.now in
    let counted = c.count-length.ensures ∙ fit_count node c.args.state.now c.requires.fit in
    let below : length (applied (kept node)) < slots_in node = omega (arith, c.if-length-from.false, c.from.ensures, c.max_slots.ensures) in
    if_ok_weaker c.fixed.result _ _
    (λ line is. down_done g.D.Disk.faults node 0 c.args.at_ms c.args.token c.args.op.now line.items below (sym c.is_up.ensures ∙ c.if-not-is_up.true) is) c.fixed.ensures

pub returns-then-not-is_up-clause-ends : goal.returns-then-not-is_up-clause-ends
returns-then-not-is_up-clause-ends g c = λ told. on_err c.fixed.result _ (ends_same g.D.Disk.faults c.args.node.now _)

pub place-line-requires-clause-at_the_end : goal.place-line-requires-clause-at_the_end
place-line-requires-clause-at_the_end g c =
    c.count-length.ensures ∙ (fit_count c.args.node.now c.args.state.now c.requires.fit ∙ applied_length (kept c.args.node.now))

pub place-line-requires-clause-drawn : goal.place-line-requires-clause-drawn
place-line-requires-clause-drawn g c =
    subst (λ (d : Command). IsDrawn (kept c.args.node.now) d.id) (sym c.in_ok-command.ensures) (c.next_id.ensures.inc, c.next_id.ensures.n)

pub returns-clause-ends : goal.returns-clause-ends
returns-clause-ends g c = λ told.
    let is = ap asked c.in_ok-command.ensures ∙ asked_is c.args.node.now c.args.state.now c.next_id.result c.args.at_ms c.args.token c.args.op.now c.requires.fit c.next_id.ensures.node in
    subst (λ s. OnErr c.place-line.result (Ends g.D.Disk.faults c.args.node.now s c.place-line.new.node)) is (c.place-line.ensures.ends told)
