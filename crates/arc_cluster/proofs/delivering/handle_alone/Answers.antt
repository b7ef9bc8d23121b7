use Rattle.arc_cluster.proofs.Deliveries.{handled_one}
use Rattle.arc_cluster.proofs.delivering.handle_alone.Goals as goal

pub returns-clause-handled : goal.returns-clause-handled
returns-clause-handled g c =
    let did = c.handle.ensures in
    let may = c.requires.may in
    handled_one g.D.Disk c.args.node.now c.handle.new.self c.args.message.now g.met.D.Disk.only_now may did.in_order
    (did.in_place may.in_place) did.same did.any_moment c.handle.result did.calls did.handles
