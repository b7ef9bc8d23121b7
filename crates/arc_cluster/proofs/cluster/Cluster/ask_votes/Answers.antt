use Rattle.std.proofs.Common.{◌≡◌, false, sym, subst}
use Rattle.arc_data.specs.declared.message.Message.{Message}
use Rattle.arc_cluster.specs.Exchange.{AllSent, MayBeSent, AllGrow, sent}
use Rattle.arc_cluster.proofs.Onward.{peers_after}
use Rattle.arc_cluster.proofs.PeerVotes.{few_take_part, same_end, three_choose, vote_may_be_sent, votes_under_way}
use Rattle.arc_cluster.proofs.Bounds.{gives_sent}
use Rattle.arc_cluster.specs.Voting.{asks_vote}
use Rattle.arc_proposer.specs.Proposing.{proposed_by}
use Rattle.arc_cluster.proofs.cluster.Cluster.ask_votes.Goals as goal

pub send-sent-requires-clause-message : goal.send-sent-requires-clause-message
send-sent-requires-clause-message g c =
    let nodes = c.args.self.now.nodes in
    subst (MayBeSent nodes) (sym c.requires.message)
    (vote_may_be_sent nodes c.args.work.now c.args.proposer.now _ c.requires.under_way c.requires.proposer c.requires.stands c.requires.valid)

pub returns-in-Ok-clause-chosen : goal.returns-in-Ok-clause-chosen
returns-in-Ok-clause-chosen g c = λ ended.
    let disk = g.D.Disk in
    let courier = g.C.Courier in
    let old = c.args.self.now in
    let new = c.send-sent.new.self in
    let before = c.args.work.now in
    let after = c.send-sent.new.work in
    let p = c.args.proposer.now in
    let q = c.count_votes.new.proposer in
    let answers = c.send-sent.new.answers in
    let on = c.in-Ok.ensures.go_on_in in
    let sent = subst (λ (m : Message). AllSent courier.troubles courier.is_silent old new before after m false answers) c.requires.message c.in-Ok.ensures.each in
    let has_peers = peers_after disk.faults disk.stops_in disk.is_tame courier.troubles courier.is_silent old new before after c.requires.under_way.peers on in
    let three = three_choose courier.troubles courier.is_silent old new before after p q _ answers c.requires.under_way c.requires.stands
    c.requires.proposer on sent c.count_votes.ensures.counted (c.votes_of.ensures.chosen (same_end ended)) in (
      votes_under_way courier.troubles courier.is_silent old new before after p q _ answers c.requires.under_way c.requires.stands
          c.requires.proposer on sent c.count_votes.ensures.counted c.send-sent.ensures.go_on.nodes.same has_peers,
      three.0,
      three.1,
    )

pub returns-in-Ok-clause-too_few : goal.returns-in-Ok-clause-too_few
returns-in-Ok-clause-too_few g c = λ ended.
    let disk = g.D.Disk in
    let courier = g.C.Courier in
    let old = c.args.self.now in
    let new = c.send-sent.new.self in
    let before = c.args.work.now in
    let after = c.send-sent.new.work in
    let p = c.args.proposer.now in
    let q = c.count_votes.new.proposer in
    let answers = c.send-sent.new.answers in
    let on = c.in-Ok.ensures.go_on_in in
    let sent = subst (λ (m : Message). AllSent courier.troubles courier.is_silent old new before after m false answers) c.requires.message c.in-Ok.ensures.each in
    let has_peers = peers_after disk.faults disk.stops_in disk.is_tame courier.troubles courier.is_silent old new before after c.requires.under_way.peers on in (
      votes_under_way courier.troubles courier.is_silent old new before after p q _ answers c.requires.under_way c.requires.stands
          c.requires.proposer on sent c.count_votes.ensures.counted c.send-sent.ensures.go_on.nodes.same has_peers,
      few_take_part courier.troubles courier.is_silent old new before after p q _ answers c.requires.under_way c.requires.stands
          c.requires.proposer on sent c.count_votes.ensures.counted (c.votes_of.ensures.too_few (same_end ended)),
    )

pub returns-in-Ok-clause-bounds : goal.returns-in-Ok-clause-bounds
returns-in-Ok-clause-bounds g c =
    let old = c.args.self.now.nodes in
    let new = c.send-sent.new.self.nodes in
    let work = c.args.work.now in
    let p = c.args.proposer.now in
    gives_sent old new work false (asks_vote work p (proposed_by p))
    (subst (λ (m : Message). AllGrow old new (sent work false m)) c.requires.message c.send-sent.ensures.grown)

pub returns-in-Err-clause-bounds : goal.returns-in-Err-clause-bounds
returns-in-Err-clause-bounds g c =
    let old = c.args.self.now.nodes in
    let new = c.send-sent.new.self.nodes in
    let work = c.args.work.now in
    let p = c.args.proposer.now in
    gives_sent old new work false (asks_vote work p (proposed_by p))
    (subst (λ (m : Message). AllGrow old new (sent work false m)) c.requires.message c.send-sent.ensures.grown)
