use Rattle.std.proofs.Common.{sym, arith}
use Rattle.arc_node.specs.Node.{kept}
use Rattle.arc_voting.specs.Lists.{applied}
use Rattle.arc_engine.proofs.Behind.{after_apply, behind_few}
use Rattle.arc_engine.proofs.catching_up.do_next.Goals as goal

pub overflow_cast-count : goal.overflow_cast-count
overflow_cast-count g c =
    let few = behind_few c.args.node.now c.args.state.now c.requires.limits c.requires.behind in
    let count = c.count.ensures in
    omega arith

pub apply-requires-clause-room : goal.apply-requires-clause-room
apply-requires-clause-room g c =
    let few = behind_few c.args.node.now c.args.state.now c.requires.limits c.requires.behind in
    omega arith

pub returns-in-Some-clause-behind : goal.returns-in-Some-clause-behind
returns-in-Some-clause-behind g c =
    let known = rw (c.in-Some.is, c.count.ensures) at c.command_at.ensures.told in
    (after_apply c.args.state.now c.apply.new.self (applied (kept c.args.node.now)) c.in-Some.command.now c.apply.result c.requires.behind
    (sym known) c.apply.ensures.applies c.apply.ensures.unchanged).0

pub returns-in-Some-clause-done : goal.returns-in-Some-clause-done
returns-in-Some-clause-done g c =
    let known = rw (c.in-Some.is, c.count.ensures) at c.command_at.ensures.told in
    (after_apply c.args.state.now c.apply.new.self (applied (kept c.args.node.now)) c.in-Some.command.now c.apply.result c.requires.behind
    (sym known) c.apply.ensures.applies c.apply.ensures.unchanged).1
