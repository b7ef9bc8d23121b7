use Rattle.std.proofs.Common.{◌≡◌, true, subst}
use Rattle.arc_node.specs.Node.{is_standing_up}
use Rattle.arc_node.specs.declared.standing.Standing.{Standing}
use Rattle.arc_cluster.proofs.Alone.{cluster_choices, cluster_in_order}
use Rattle.arc_cluster.proofs.cluster.Cluster.arm.Goals as goal

pub returns-clause-in_order : goal.returns-clause-in_order
returns-clause-in_order g c =
    let disk = g.D.Disk in
    cluster_in_order c.args.self.now c.args.node c.get_mut.result.now c.arm.new.self c.requires.of_five c.get_mut.ensures.value
    c.arm.ensures.same c.arm.ensures.kept disk.tells disk.content disk.may_leave c.requires.in_order c.arm.ensures.in_order
    (λ up. subst (λ (s : Standing). is_standing_up s ≡ true) c.arm.ensures.standing up)

pub returns-clause-choices : goal.returns-clause-choices
returns-clause-choices g c =
    cluster_choices c.args.self.now c.args.node c.get_mut.result.now c.arm.new.self c.requires.of_five c.get_mut.ensures.value
    c.arm.ensures.same c.arm.ensures.kept
