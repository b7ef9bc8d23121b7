use Rattle.std.proofs.Common.{◌≡◌, sym, subst, false}
use Rattle.arc_data.specs.declared.command.Command.{Command}
use Rattle.arc_data.specs.declared.message.Message.TheVariants.{Learn}
use Rattle.arc_cluster.specs.Exchange.{MayBeSent}
use Rattle.arc_cluster.proofs.Closing.{learn_may_be_sent}
use Rattle.arc_cluster.proofs.Onward.{cluster_same}
use Rattle.arc_cluster.proofs.Bounds.{gives_same, gives_sent}
use Rattle.arc_cluster.proofs.cluster.Cluster.tell_chosen.Goals as goal

pub returns-in_default-clause-go_on : goal.returns-in_default-clause-go_on
returns-in_default-clause-go_on g c =
    cluster_same g.D.Disk.faults g.D.Disk.stops_in g.D.Disk.is_tame g.C.Courier.troubles g.C.Courier.is_silent _ c.args.self.now

pub send-told-requires-clause-message : goal.send-told-requires-clause-message
send-told-requires-clause-message g c =
    let disk = g.D.Disk in
    let nodes = c.args.self.now.nodes in
    let work = c.args.work.now in
    subst (λ (d : Command). MayBeSent nodes (Learn work.slot d)) (sym c.in-Ok.ensures)
    (learn_may_be_sent disk.tells disk.content disk.may_leave nodes work.endpoint work.slot c.args.command.now c.requires.peers.of_five c.requires.in_order.nodes
    c.requires.closed c.requires.valid c.requires.chosen)

pub returns-in_default-clause-bounds : goal.returns-in_default-clause-bounds
returns-in_default-clause-bounds g c = gives_same 0 0 c.args.self.now.nodes

pub returns-clause-bounds : goal.returns-clause-bounds
returns-clause-bounds g c =
    gives_sent c.args.self.now.nodes c.send-told.new.self.nodes c.args.work.now false (Learn c.args.work.now.slot c.in-Ok.copy) c.send-told.ensures.grown
