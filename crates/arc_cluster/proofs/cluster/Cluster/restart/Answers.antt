use Rattle.arc_cluster.specs.Cluster.{held_in}
use Rattle.arc_cluster.proofs.Following.{held_still}
use Rattle.arc_cluster.proofs.cluster.Cluster.restart.Goals as goal

pub returns-clause-in_order : goal.returns-clause-in_order
returns-clause-in_order g c =
    let old = c.args.self.now in
    let each = c.start_again.ensures in
    record {
      nodes = each.in_order;
      held =
          held_still old.nodes c.start_again.new.nodes (λ d. ⊥) (held_in old) each.follow each.same c.requires.in_order.held;
    }
