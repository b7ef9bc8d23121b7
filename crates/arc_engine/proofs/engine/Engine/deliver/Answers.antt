use Rattle.std.proofs.Common.{refl}
use Rattle.arc_engine.proofs.Behind.{list_grows}
use Rattle.arc_engine.proofs.Going.{go_on_begin, order_stays}
use Rattle.arc_engine.proofs.engine.Engine.deliver.Goals as goal

pub returns-clause-grows : goal.returns-clause-grows
returns-clause-grows g c =
    let disk = g.D.Disk in
    let ok = c.deliver.ensures in
    list_grows disk.tells disk.content disk.may_leave c.args.self.now.cluster.nodes c.deliver.new.self.nodes ok.in_order.nodes
    (go_on_begin disk.faults disk.stops_in disk.is_tame (λ d. ⊥) c.args.self.now.cluster.nodes c.deliver.new.self.nodes ok.go_on.nodes)

pub returns-clause-in_order : goal.returns-clause-in_order
returns-clause-in_order g c =
    let disk = g.D.Disk in
    let ok = c.deliver.ensures in
    order_stays disk.tells disk.content disk.may_leave c.args.self.now
    (record { cluster = c.deliver.new.self; state = c.args.self.now.state }) c.requires.in_order ok.in_order refl
    (list_grows disk.tells disk.content disk.may_leave c.args.self.now.cluster.nodes c.deliver.new.self.nodes ok.in_order.nodes
    (go_on_begin disk.faults disk.stops_in disk.is_tame (λ d. ⊥) c.args.self.now.cluster.nodes c.deliver.new.self.nodes ok.go_on.nodes))
