use Rattle.std.proofs.Common.{true≢false, sym, ◌∙◌}
use Rattle.arc_cluster.proofs.Alone.{cluster_choices, cluster_in_order}
use Rattle.arc_cluster.proofs.cluster.Cluster.crash.Goals as goal

pub returns-clause-in_order : goal.returns-clause-in_order
returns-clause-in_order g c =
    let disk = g.D.Disk in
    cluster_in_order c.args.self.now c.args.node c.get_mut.result.now c.crash.new.self c.requires.of_five c.get_mut.ensures.value
    c.crash.ensures.same c.crash.ensures.kept disk.tells disk.content disk.may_leave c.requires.in_order c.crash.ensures.in_order
    (λ up. absurd (true≢false (sym up ∙ c.crash.ensures.not_up)))

pub returns-clause-choices : goal.returns-clause-choices
returns-clause-choices g c =
    cluster_choices c.args.self.now c.args.node c.get_mut.result.now c.crash.new.self c.requires.of_five c.get_mut.ensures.value
    c.crash.ensures.same c.crash.ensures.kept
