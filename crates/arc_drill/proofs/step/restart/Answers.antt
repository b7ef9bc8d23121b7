use Rattle.std.proofs.Common.{inl, refl, ◌∙◌}
use Rattle.arc_node.specs.Node.{kept}
use Rattle.arc_drill.proofs.Fitness.{restarted_behind, restarted_lists}
use Rattle.arc_drill.proofs.Results.{if_ok_weaker, on_err, on_ok}
use Rattle.arc_drill.proofs.Stepping.{restart_done, restart_ends}
use Rattle.arc_drill.proofs.step.restart.Goals as goal

pub catch_up-requires-clause-doable : goal.catch_up-requires-clause-doable
catch_up-requires-clause-doable g c =
    let disk = g.D.Disk in
    let new = c.start_again-start.new.node in
    (restarted_lists disk.tells disk.faults c.args.node.now new c.start_again-start.result c.start_again-start.ensures.starts c.requires.fit.lists (kept new) (inl refl)).doable

pub catch_up-requires-clause-behind : goal.catch_up-requires-clause-behind
catch_up-requires-clause-behind g c =
    let disk = g.D.Disk in
    restarted_behind disk.tells disk.faults c.args.node.now c.start_again-start.new.node c.start_again-start.result c.args.state.now c.start_again-start.ensures.starts c.requires.fit.after

pub returns-clause-fit : goal.returns-clause-fit
returns-clause-fit g c =
    let disk = g.D.Disk in
    on_ok c.line_of.result _ (record {
      number = c.start_again-start.ensures.same.number ∙ c.requires.fit.number;
      lists = restarted_lists disk.tells disk.faults c.args.node.now c.start_again-start.new.node c.start_again-start.result c.start_again-start.ensures.starts c.requires.fit.lists;
      after = c.in_ok-catch_up.ensures;
    })

pub returns-clause-does : goal.returns-clause-does
returns-clause-does g c = λ told.
    let disk = g.D.Disk in
    if_ok_weaker c.line_of.result _ _
    (λ line is. restart_done disk.tells disk.faults c.args.node.now c.start_again-start.new.node c.start_again-start.result 0 line.items told c.start_again-start.ensures.same
    c.start_again-start.ensures.since.later c.start_again-start.ensures.starts is) c.line_of.ensures

pub returns-clause-ends : goal.returns-clause-ends
returns-clause-ends g c = λ told.
    let disk = g.D.Disk in
    on_err c.line_of.result _ (restart_ends disk.tells disk.faults c.args.node.now c.start_again-start.new.node c.start_again-start.result _ c.start_again-start.ensures.since.later c.start_again-start.ensures.starts)

pub returns-in_err-catch_up-clause-ends : goal.returns-in_err-catch_up-clause-ends
returns-in_err-catch_up-clause-ends g c = λ told.
    let disk = g.D.Disk in
    on_err c.from_residual.result _ (restart_ends disk.tells disk.faults c.args.node.now c.start_again-start.new.node c.start_again-start.result _ c.start_again-start.ensures.since.later c.start_again-start.ensures.starts)
