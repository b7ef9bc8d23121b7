use Rattle.arc_node.specs.Node.{disk_in}
use Rattle.arc_cluster.proofs.Starts.{restart_begins, restart_follows, restart_in_order, restart_leaves_sound, restarted, restarted_order}
use Rattle.arc_cluster.proofs.restarting.start_again.Goals as goal

pub returns-clause-in_order : goal.returns-clause-in_order
returns-clause-in_order g c =
    let did = c.restart.ensures in
    restart_in_order g.D.Disk c.args.nodes.now c.args.node c.get_mut.result.now c.restart.new.self c.get_mut.ensures.value
    c.requires.of_five c.restart.result did.restarts c.requires.in_order did.in_order did.same

pub returns-clause-restarts : goal.returns-clause-restarts
returns-clause-restarts g c =
    restarted g.D.Disk c.args.nodes.now c.args.node c.get_mut.result.now c.restart.new.self c.get_mut.ensures.value
    c.requires.of_five c.restart.result c.restart.ensures.restarts

pub returns-clause-follow : goal.returns-clause-follow
returns-clause-follow g c =
    restart_follows g.D.Disk c.args.nodes.now c.args.node c.get_mut.result.now c.restart.new.self c.get_mut.ensures.value
    c.requires.of_five c.restart.result c.restart.ensures.restarts

pub returns-clause-grows : goal.returns-clause-grows
returns-clause-grows g c =
    restart_begins g.D.Disk c.args.nodes.now c.args.node c.get_mut.result.now c.restart.new.self c.get_mut.ensures.value
    c.requires.of_five c.restart.result c.restart.ensures.restarts

pub returns-clause-any_moment : goal.returns-clause-any_moment
returns-clause-any_moment g c =
    restart_leaves_sound g.D.Disk c.args.nodes.now c.args.node c.get_mut.result.now c.restart.new.self c.get_mut.ensures.value
    c.requires.of_five c.restart.result c.restart.ensures.restarts g.met.D.Disk.only_now c.requires.in_order
    c.restart.ensures.any_moment

pub returns-clause-honest : goal.returns-clause-honest
returns-clause-honest g c = λ told.
    let order = restarted_order g.D.Disk c.args.nodes.now c.args.node c.get_mut.result.now c.get_mut.ensures.value c.requires.of_five
    c.requires.in_order in
    let d = disk_in c.get_mut.result.now in
    c.restart.ensures.honest told (order.images told (g.D.Disk.content d) (g.met.D.Disk.reads_as_left d told))
