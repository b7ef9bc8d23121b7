use Rattle.std.proofs.Common.{◌≡◌, Ok, true, Option, refl, sym, ◌∙◌, ap, subst}
use Rattle.std.specs.Option.{is_some}
use Rattle.arc_bytes.specs.Five.{at}
use Rattle.arc_data.specs.declared.command.Command.{Command}
use Rattle.arc_data.specs.declared.message.Message.TheVariants.{Learn}
use Rattle.arc_cluster.specs.Exchange.{OwnHandled, to_own}
use Rattle.arc_cluster.specs.Handling.{MayBeHandled}
use Rattle.arc_cluster.proofs.Closing.{learn_closes, learn_may_be_handled, message_asks_none}
use Rattle.arc_cluster.proofs.Onward.{cluster_same, cluster_widened}
use Rattle.arc_cluster.proofs.Promised.{some_there}
use Rattle.arc_cluster.proofs.Bounds.{gives_own, gives_same}
use Rattle.arc_cluster.proofs.cluster.Cluster.learn_own.Goals as goal

pub returns-in_default-clause-go_on : goal.returns-in_default-clause-go_on
returns-in_default-clause-go_on g c =
    cluster_same g.D.Disk.faults g.D.Disk.stops_in g.D.Disk.is_tame g.C.Courier.troubles g.C.Courier.is_silent _ c.args.self.now

pub send_own-told-requires-clause-message : goal.send_own-told-requires-clause-message
send_own-told-requires-clause-message g c =
    let nodes = c.args.self.now.nodes in
    let work = c.args.work.now in
    subst (λ (d : Command). MayBeHandled nodes (to_own work.endpoint (Learn work.slot d))) (sym c.in-Ok.ensures)
    (learn_may_be_handled nodes work c.args.command.now c.requires.under_way c.requires.valid c.requires.chosen)

pub returns-in-Ok-told-clause-go_on : goal.returns-in-Ok-told-clause-go_on
returns-in-Ok-told-clause-go_on g c =
    let disk = g.D.Disk in
    let courier = g.C.Courier in
    let work = c.args.work.now in
    cluster_widened disk.faults disk.stops_in disk.is_tame courier.troubles courier.is_silent _ (λ d. ⊥)
    (message_asks_none work.endpoint work.slot c.in-Ok.copy (Learn work.slot c.in-Ok.copy) refl) c.args.self.now c.send_own-told.new.self c.send_own-told.ensures.go_on

pub returns-in-Err-clause-go_on : goal.returns-in-Err-clause-go_on
returns-in-Err-clause-go_on g c =
    let disk = g.D.Disk in
    let courier = g.C.Courier in
    let work = c.args.work.now in
    cluster_widened disk.faults disk.stops_in disk.is_tame courier.troubles courier.is_silent _ (λ d. ⊥)
    (message_asks_none work.endpoint work.slot c.in-Ok.copy (Learn work.slot c.in-Ok.copy) refl) c.args.self.now c.send_own-told.new.self c.send_own-told.ensures.go_on

pub returns-in-Ok-told-clause-closed : goal.returns-in-Ok-told-clause-closed
returns-in-Ok-told-clause-closed g c = λ ended.
    let nodes = c.args.self.now.nodes in
    let new = c.send_own-told.new.self.nodes in
    let work = c.args.work.now in
    let answers = c.send_own-told.new.answers in
    let there = some_there answers work.endpoint work.endpoint refl c.is_some-learned.result (c.is_some-learned.ensures ∙ ap is_some c.get.ensures) ended in
    let handled = subst (λ (d : Command). OwnHandled nodes new work.endpoint (Learn work.slot d) answers) c.in-Ok.ensures c.in-Ok-told.ensures.handled in
    learn_closes nodes new work c.args.command.now answers there.0 c.requires.under_way handled there.1

pub returns-in_default-clause-bounds : goal.returns-in_default-clause-bounds
returns-in_default-clause-bounds g c = gives_same 0 0 c.args.self.now.nodes

pub returns-in-Ok-told-clause-bounds : goal.returns-in-Ok-told-clause-bounds
returns-in-Ok-told-clause-bounds g c =
    let work = c.args.work.now in
    gives_own c.args.self.now.nodes c.send_own-told.new.self.nodes work.endpoint (Learn work.slot c.in-Ok.copy) c.send_own-told.ensures.grown

pub returns-in-Err-clause-bounds : goal.returns-in-Err-clause-bounds
returns-in-Err-clause-bounds g c =
    let work = c.args.work.now in
    gives_own c.args.self.now.nodes c.send_own-told.new.self.nodes work.endpoint (Learn work.slot c.in-Ok.copy) c.send_own-told.ensures.grown
