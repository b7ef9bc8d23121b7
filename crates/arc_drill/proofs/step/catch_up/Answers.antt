use Rattle.std.proofs.Common.{sym, arith}
use Rattle.arc_node.specs.Node.{kept}
use Rattle.arc_voting.specs.Lists.{applied}
use Rattle.arc_drill.proofs.Fitness.{behind_few, caught_none, caught_some}
use Rattle.arc_drill.proofs.step.catch_up.Goals as goal

pub overflow_cast-count : goal.overflow_cast-count
overflow_cast-count g c =
    let few = behind_few c.args.node.now c.args.state.now c.requires.limits c.requires.behind in
    let count = c.count.ensures in
    omega arith

pub apply-requires-clause-room : goal.apply-requires-clause-room
apply-requires-clause-room g c =
    let few = behind_few c.args.node.now c.args.state.now c.requires.limits c.requires.behind in
    omega arith

pub returns-in_default : goal.returns-in_default
returns-in_default g c =
    let known = rw (c.in_default.is, c.count.ensures) at c.command_at.ensures.told in
    caught_none c.args.state.now (applied (kept c.args.node.now)) c.requires.behind (sym known)

pub returns : goal.returns
returns g c =
    let known = rw (c.in-Some.is, c.count.ensures) at c.command_at.ensures.told in
    caught_some c.args.state.now c.apply.new.self (applied (kept c.args.node.now)) c.in-Some.command.now _ c.requires.behind (sym known) c.in_ok-apply.ensures.applies
