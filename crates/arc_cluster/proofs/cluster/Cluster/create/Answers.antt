use Rattle.arc_cluster.proofs.Creating.{created_in_order}
use Rattle.arc_cluster.proofs.Following.{nothing_is_held}
use Rattle.arc_cluster.proofs.cluster.Cluster.create.Goals as goal

pub returns-in-Ok-clause-in_order : goal.returns-in-Ok-clause-in_order
returns-in-Ok-clause-in_order g c =
    let disk = g.D.Disk in
    let nodes = c.in-Ok.nodes in
    record {
      nodes =
          created_in_order nodes c.args.max_slots c.in-Ok.ensures.created disk.tells disk.content disk.may_leave c.in-Ok.ensures.in_order;
      held = nothing_is_held nodes c.none.result.envelopes.items c.none.ensures;
    }
