use Rattle.std.proofs.Common.{◌≡◌, true, sym, ◌∙◌, subst, arith}
use Rattle.arc_node.specs.Node.{is_up}
use Rattle.arc_node.specs.declared.node.Node.{Node}
use Rattle.arc_cluster.specs.Placing.{IsNextId}
use Rattle.arc_bench.proofs.cluster.is_renewed.Goals as goal

pub returns-clause-may : goal.returns-clause-may
returns-clause-may g c = λ renewed.
    let own = c.node-own.result.now in
    let told = c.next_id-command.ensures in
    let id = c.next_id-command.result in
    let law = c.new_commands_may_be_attempted.ensures in
    let before = c.args.command.now in
    let was = c.requires.valid in
    let up = subst (λ (node : Node g.row.D.Denot). is_up node ≡ true) c.node-own.ensures (sym c.is_up.ensures ∙ c.if-not-is_up.false) in
    let next = subst (λ (node : Node g.row.D.Denot). IsNextId node id) c.node-own.ensures
    (record { home = told.node; start = told.inc; number = told.n }) in
    law.attempted c.args.nodes.now.nodes 0 (record { id = id; at_ms = before.at_ms; token = before.token; op = before.op })
    c.requires.in_order.nodes (omega arith) up
    (record { id = law.ids c.args.nodes.now.nodes 0 id c.requires.in_order.nodes (omega arith) up next; time = was.time; op = was.op }) next
