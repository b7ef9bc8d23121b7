use Rattle.std.proofs.Common.{◌≡◌, Ok, true, Option, refl, sym, ◌∙◌, ap, subst}
use Rattle.std.specs.Option.{is_some}
use Rattle.arc_bytes.specs.Five.{at}
use Rattle.arc_data.specs.declared.message.Message.{Message}
use Rattle.arc_cluster.specs.Exchange.{OwnHandled, to_own, AllGrow}
use Rattle.arc_cluster.specs.Handling.{MayBeHandled}
use Rattle.arc_cluster.specs.Nodes.{AllFollow}
use Rattle.arc_voting.specs.Staying.{IsAskedFor}
use Rattle.arc_cluster.proofs.Beginning.{cluster_begins}
use Rattle.arc_cluster.proofs.Promised.{some_there}
use Rattle.arc_cluster.proofs.Voted.{own_begins, own_vote_may_be_asked, own_vote_stands, under_way_still}
use Rattle.arc_cluster.proofs.Bounds.{gives_own}
use Rattle.arc_cluster.specs.Voting.{asks_vote}
use Rattle.arc_proposer.specs.Proposing.{proposed_by}
use Rattle.arc_cluster.proofs.cluster.Cluster.vote_own.Goals as goal

pub send_own-own-requires-clause-message : goal.send_own-own-requires-clause-message
send_own-own-requires-clause-message g c =
    let disk = g.D.Disk in
    let nodes = c.args.self.now.nodes in
    let work = c.args.work.now in
    subst (λ (m : Message). MayBeHandled nodes (to_own work.endpoint m)) (sym c.requires.message)
    (own_vote_may_be_asked disk.tells disk.content disk.may_leave nodes work c.args.proposer.now c.requires.in_order.nodes c.requires.under_way
    c.requires.promised c.requires.majority c.requires.proposer c.requires.own c.requires.valid)

pub returns-in-Ok-clause-go_on : goal.returns-in-Ok-clause-go_on
returns-in-Ok-clause-go_on g c =
    let disk = g.D.Disk in
    let courier = g.C.Courier in
    let old = c.args.self.now in
    let new = c.send_own-own.new.self in
    let work = c.args.work.now in
    cluster_begins disk.faults disk.stops_in disk.is_tame courier.troubles courier.is_silent _ _ old new c.send_own-own.ensures.go_on
    (own_begins disk.tells disk.content disk.may_leave old.nodes work c.args.proposer.now c.requires.in_order.nodes c.requires.under_way
    c.requires.promised c.requires.majority c.requires.proposer c.requires.own new.nodes
    (subst (λ (m : Message). AllFollow old.nodes new.nodes (IsAskedFor (to_own work.endpoint m))) c.requires.message c.send_own-own.ensures.go_on.nodes.follow))

pub returns-in-Err-clause-go_on : goal.returns-in-Err-clause-go_on
returns-in-Err-clause-go_on g c =
    let disk = g.D.Disk in
    let courier = g.C.Courier in
    let old = c.args.self.now in
    let new = c.send_own-own.new.self in
    let work = c.args.work.now in
    cluster_begins disk.faults disk.stops_in disk.is_tame courier.troubles courier.is_silent _ _ old new c.send_own-own.ensures.go_on
    (own_begins disk.tells disk.content disk.may_leave old.nodes work c.args.proposer.now c.requires.in_order.nodes c.requires.under_way
    c.requires.promised c.requires.majority c.requires.proposer c.requires.own new.nodes
    (subst (λ (m : Message). AllFollow old.nodes new.nodes (IsAskedFor (to_own work.endpoint m))) c.requires.message c.send_own-own.ensures.go_on.nodes.follow))

pub returns-in-Ok-clause-under_way : goal.returns-in-Ok-clause-under_way
returns-in-Ok-clause-under_way g c = λ is.
    let disk = g.D.Disk in
    let nodes = c.args.self.now.nodes in
    let new = c.send_own-own.new.self.nodes in
    let work = c.args.work.now in
    let answers = c.send_own-own.new.answers in
    let there = some_there answers work.endpoint work.endpoint refl c.is_some-voted.result (c.is_some-voted.ensures ∙ ap is_some c.get.ensures) is in
    under_way_still disk.tells disk.content disk.may_leave nodes work c.args.proposer.now c.requires.in_order.nodes c.requires.under_way
    c.requires.promised c.requires.majority c.requires.proposer c.requires.own new c.count_votes.new.proposer answers
    (subst (λ (m : Message). OwnHandled nodes new work.endpoint m answers) c.requires.message c.in-Ok.ensures.handled) c.count_votes.ensures.counted there.0 there.1
    c.send_own-own.ensures.go_on.nodes.same

pub returns-in-Ok-clause-stands : goal.returns-in-Ok-clause-stands
returns-in-Ok-clause-stands g c = λ is.
    let disk = g.D.Disk in
    let nodes = c.args.self.now.nodes in
    let new = c.send_own-own.new.self.nodes in
    let work = c.args.work.now in
    let answers = c.send_own-own.new.answers in
    let there = some_there answers work.endpoint work.endpoint refl c.is_some-voted.result (c.is_some-voted.ensures ∙ ap is_some c.get.ensures) is in
    own_vote_stands disk.tells disk.content disk.may_leave nodes work c.args.proposer.now c.requires.in_order.nodes c.requires.under_way
    c.requires.promised c.requires.majority c.requires.proposer c.requires.own new c.count_votes.new.proposer answers
    (subst (λ (m : Message). OwnHandled nodes new work.endpoint m answers) c.requires.message c.in-Ok.ensures.handled) c.count_votes.ensures.counted there.0 there.1

pub returns-in-Ok-clause-bounds : goal.returns-in-Ok-clause-bounds
returns-in-Ok-clause-bounds g c =
    let old = c.args.self.now.nodes in
    let new = c.send_own-own.new.self.nodes in
    let work = c.args.work.now in
    let p = c.args.proposer.now in
    gives_own old new work.endpoint (asks_vote work p (proposed_by p))
    (subst (λ (m : Message). AllGrow old new (to_own work.endpoint m)) c.requires.message c.send_own-own.ensures.grown)

pub returns-in-Err-clause-bounds : goal.returns-in-Err-clause-bounds
returns-in-Err-clause-bounds g c =
    let old = c.args.self.now.nodes in
    let new = c.send_own-own.new.self.nodes in
    let work = c.args.work.now in
    let p = c.args.proposer.now in
    gives_own old new work.endpoint (asks_vote work p (proposed_by p))
    (subst (λ (m : Message). AllGrow old new (to_own work.endpoint m)) c.requires.message c.send_own-own.ensures.grown)
