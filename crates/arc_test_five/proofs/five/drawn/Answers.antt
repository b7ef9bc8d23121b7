use Rattle.std.proofs.Common.{◌≡◌, true, sym, ◌∙◌, ap, subst}
use Rattle.arc_data.specs.declared.CommandId.{CommandId}
use Rattle.arc_node.specs.Node.{is_up, kept, number_of}
use Rattle.arc_node.specs.declared.node.Node.{Node}
use Rattle.arc_voting.specs.Journals.{last_inc, since_opened}
use Rattle.arc_cluster.specs.Placing.{IsNextId}
use Rattle.arc_test_five.proofs.five.drawn.Goals as goal

-- a command that has the id that the node told
has_next_id : {D : Type 0} (node : Node D) (id told : CommandId) → id ≡ told → told.node ≡ number_of node → told.inc ≡ last_inc (kept node)
    → told.n ≡ since_opened (kept node) → IsNextId node id
has_next_id node id told same home start number = record {
  home = ap (λ (i : CommandId). i.node) same ∙ home;
  start = ap (λ (i : CommandId). i.inc) same ∙ start;
  number = ap (λ (i : CommandId). i.n) same ∙ number;
}

pub returns-clause-may : goal.returns-clause-may
returns-clause-may g c =
    let own = c.node-own.result.now in
    let told = c.next_id.ensures in
    let up : is_up own ≡ true = sym c.is_up.ensures ∙ c.if-not-is_up.false in
    let next : IsNextId own c.command.result.id =
    has_next_id own c.command.result.id c.next_id.result c.command.ensures.id told.node told.inc told.n in
    c.new_commands_may_be_attempted.ensures.attempted c.args.nodes.now.nodes c.args.node c.command.result c.requires.in_order.nodes
    c.requires.of_five (subst (λ (node : Node g.row.D.Denot). is_up node ≡ true) c.node-own.ensures up) c.command.ensures.valid
    (subst (λ (node : Node g.row.D.Denot). IsNextId node c.command.result.id) c.node-own.ensures next)
