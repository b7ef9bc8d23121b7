use Rattle.std.proofs.Common.{refl}
use Rattle.arc_engine.proofs.Behind.{list_grows}
use Rattle.arc_engine.proofs.Going.{one_begins, order_stays}
use Rattle.arc_engine.proofs.engine.Engine.restart.Goals as goal

pub returns-clause-grows : goal.returns-clause-grows
returns-clause-grows g c =
    let disk = g.D.Disk in
    let ok = c.restart.ensures in
    list_grows disk.tells disk.content disk.may_leave c.args.self.now.cluster.nodes c.restart.new.self.nodes ok.in_order.nodes
    (one_begins c.args.self.now.cluster.nodes c.restart.new.self.nodes c.args.node ok.grows ok.others)

pub returns-clause-in_order : goal.returns-clause-in_order
returns-clause-in_order g c =
    let disk = g.D.Disk in
    let ok = c.restart.ensures in
    order_stays disk.tells disk.content disk.may_leave c.args.self.now
    (record { cluster = c.restart.new.self; state = c.args.self.now.state }) c.requires.in_order ok.in_order refl
    (list_grows disk.tells disk.content disk.may_leave c.args.self.now.cluster.nodes c.restart.new.self.nodes ok.in_order.nodes
    (one_begins c.args.self.now.cluster.nodes c.restart.new.self.nodes c.args.node ok.grows ok.others))
