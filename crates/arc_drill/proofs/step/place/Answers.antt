use Rattle.std.proofs.Common.{sym, ◌∙◌, arith}
use Rattle.arc_node.specs.Node.{IsKnown, kept}
use Rattle.arc_node.proofs.Orders.{of_up}
use Rattle.arc_voting.proofs.Uses.{applied_length}
use Rattle.arc_drill.proofs.Fitness.{answered_fit, fallen_fit, fit_count}
use Rattle.arc_drill.proofs.Results.{if_ok_weaker, on_err, on_ok}
use Rattle.arc_drill.proofs.Stepping.{crash_ends, fallen_done, fallen_ends, placed_done, placed_ends}
use Rattle.arc_drill.proofs.step.place.Goals as goal

pub answered-requires-clause-room : goal.answered-requires-clause-room
answered-requires-clause-room g c =
    let old = c.args.node.now in
    let count = fit_count old c.args.state.now c.requires.fit in
    let len = applied_length (kept old) in
    let at = c.requires.at_the_end in
    omega arith

pub returns-in-Done-clause-fit : goal.returns-in-Done-clause-fit
returns-in-Done-clause-fit g c =
    let disk = g.D.Disk in
    let old = c.args.node.now in
    let new = c.learn.new.node in
    let valid = c.requires.valid in
    if_ok_weaker c.answered.result _ _
    (λ line is. answered_fit disk.faults old new c.args.state.now c.answered.new.state c.args.slot c.args.command.now is.reply c.learn.ensures.same c.in-Done.ensures.learns
    (record { op = valid.op; time = valid.time }) is.applies c.requires.fit) c.answered.ensures

pub returns-in-Done-clause-does : goal.returns-in-Done-clause-does
returns-in-Done-clause-does g c = λ told.
    let disk = g.D.Disk in
    let old = c.args.node.now in
    let new = c.learn.new.node in
    let known = of_up old.standing (IsKnown disk.tells disk.content disk.may_leave old) c.requires.up c.requires.in_order.known in
    let at = c.requires.at_the_end ∙ sym (applied_length (kept old)) in
    if_ok_weaker c.answered.result _ _
    (λ line is. placed_done disk.faults old new c.args.state.now c.answered.new.state c.args.slot c.args.command.now line.items c.requires.up known.no_doubt at c.requires.below
    c.learn.ensures.same c.learn.ensures.since.later c.requires.fit.after c.requires.drawn c.in-Done.ensures.learns is) c.answered.ensures

pub returns-in-Done-clause-ends : goal.returns-in-Done-clause-ends
returns-in-Done-clause-ends g c = λ told.
    let disk = g.D.Disk in
    let old = c.args.node.now in
    let new = c.learn.new.node in
    let known = of_up old.standing (IsKnown disk.tells disk.content disk.may_leave old) c.requires.up c.requires.in_order.known in
    let at = c.requires.at_the_end ∙ sym (applied_length (kept old)) in
    on_err c.answered.result _ (placed_ends disk.faults old new c.args.slot c.args.command.now c.requires.up known.no_doubt at c.requires.below c.learn.ensures.since.later c.requires.drawn c.in-Done.ensures.learns)

pub returns-in-Fallen-clause-fit : goal.returns-in-Fallen-clause-fit
returns-in-Fallen-clause-fit g c =
    let disk = g.D.Disk in
    let old = c.args.node.now in
    let new = c.learn.new.node in
    let valid = c.requires.valid in
    on_ok c.fixed.result _ (fallen_fit disk.faults old new c.args.state.now c.args.slot c.args.command.now c.learn.ensures.same c.in-Fallen.ensures.learns
    (record { op = valid.op; time = valid.time }) c.requires.fit)

pub returns-in-Fallen-clause-does : goal.returns-in-Fallen-clause-does
returns-in-Fallen-clause-does g c = λ told.
    let disk = g.D.Disk in
    let old = c.args.node.now in
    let new = c.learn.new.node in
    let known = of_up old.standing (IsKnown disk.tells disk.content disk.may_leave old) c.requires.up c.requires.in_order.known in
    let at = c.requires.at_the_end ∙ sym (applied_length (kept old)) in
    if_ok_weaker c.fixed.result _ _
    (λ line is. fallen_done disk.faults old new c.args.slot c.args.command.now line.items c.requires.up known.no_doubt at c.requires.below
    c.learn.ensures.same c.learn.ensures.since.later c.requires.drawn c.in-Fallen.ensures.learns is) c.fixed.ensures

pub returns-in-Fallen-clause-ends : goal.returns-in-Fallen-clause-ends
returns-in-Fallen-clause-ends g c = λ told.
    let disk = g.D.Disk in
    let old = c.args.node.now in
    let new = c.learn.new.node in
    let known = of_up old.standing (IsKnown disk.tells disk.content disk.may_leave old) c.requires.up c.requires.in_order.known in
    let at = c.requires.at_the_end ∙ sym (applied_length (kept old)) in
    on_err c.fixed.result _ (fallen_ends disk.faults old new c.args.slot c.args.command.now c.requires.up known.no_doubt at c.requires.below c.learn.ensures.since.later c.requires.drawn c.in-Fallen.ensures.learns)

pub returns-in-Memory-clause-ends : goal.returns-in-Memory-clause-ends
returns-in-Memory-clause-ends g c = λ told. crash_ends g.D.Disk.faults c.args.node.now c.learn.new.node _ c.in-Memory.ensures.learns.1 c.learn.ensures.since.later
