use Rattle.std.proofs.Common.{◌≡◌, subst}
use Rattle.arc_data.specs.declared.command.Command.{Command}
use Rattle.arc_cluster.specs.Phases.{IsVotedForGood}
use Rattle.arc_cluster.specs.Work.{IsUnderWay, MeetOnce, TakesPart}
use Rattle.arc_voting.specs.Journals.{ByThree}
use Rattle.arc_cluster.proofs.Beginning.{peers_stay}
use Rattle.arc_cluster.proofs.Coming.{met_same}
use Rattle.arc_cluster.proofs.Onward.{cluster_then}
use Rattle.arc_cluster.proofs.Bounds.{gives_more, gives_then}
use Rattle.arc_cluster.proofs.cluster.Cluster.vote_by.Goals as goal

pub returns-in-Ok-true-clause-go_on : goal.returns-in-Ok-true-clause-go_on
returns-in-Ok-true-clause-go_on g c =
    let disk = g.D.Disk in
    let courier = g.C.Courier in
    let own : Command = c.args.proposer.now.own in
    cluster_then disk.faults disk.stops_in disk.is_tame courier.troubles courier.is_silent (λ d. d ≡ own) (λ d. ⊥) (λ d. d ≡ own) (λ d may. may) (λ d may. absurd may)
    c.args.self.now c.vote_own.new.self c.ask_votes.new.self c.vote_own.ensures.go_on c.ask_votes.ensures.go_on

pub returns-in-Ok-true-clause-chosen : goal.returns-in-Ok-true-clause-chosen
returns-in-Ok-true-clause-chosen g c = λ ended.
    let new = c.ask_votes.new.self.nodes in
    let before = c.args.work.now in
    subst (λ (d : Command). IsUnderWay new c.ask_votes.new.work × IsVotedForGood new before.slot d × ByThree (TakesPart before)) c.vote_own.ensures.proposal
    (c.ask_votes.ensures.chosen ended)

pub returns-in-Ok-false-clause-go_on_in : goal.returns-in-Ok-false-clause-go_on_in
returns-in-Ok-false-clause-go_on_in g c =
    peers_stay g.C.Courier.troubles c.args.self.now c.vote_own.new.self c.args.work.now c.requires.under_way.peers c.vote_own.ensures.others c.vote_own.ensures.courier

pub returns-in-Ok-true-clause-bounds : goal.returns-in-Ok-true-clause-bounds
returns-in-Ok-true-clause-bounds g c =
    gives_then 0 1 0 1 c.args.self.now.nodes c.vote_own.new.self.nodes c.ask_votes.new.self.nodes c.vote_own.ensures.bounds c.ask_votes.ensures.bounds

pub returns-in-Ok-false-clause-bounds : goal.returns-in-Ok-false-clause-bounds
returns-in-Ok-false-clause-bounds g c = gives_more 0 1 0 1 c.args.self.now.nodes c.vote_own.new.self.nodes c.vote_own.ensures.bounds

pub returns-in-Err-clause-bounds : goal.returns-in-Err-clause-bounds
returns-in-Err-clause-bounds g c = gives_more 0 1 0 1 c.args.self.now.nodes c.vote_own.new.self.nodes c.vote_own.ensures.bounds

pub returns-in-Ok-true-clause-meets : goal.returns-in-Ok-true-clause-meets
returns-in-Ok-true-clause-meets g c =
    subst (λ k. MeetOnce g.C.Courier.troubles k c.ask_votes.new.self.courier c.args.work.now) c.vote_own.ensures.courier c.ask_votes.ensures.meets

pub returns-in-Ok-false-clause-meets : goal.returns-in-Ok-false-clause-meets
returns-in-Ok-false-clause-meets g c =
    met_same g.C.Courier.troubles c.args.self.now.courier c.vote_own.new.self.courier c.args.work.now c.vote_own.ensures.courier

pub returns-in-Err-clause-meets : goal.returns-in-Err-clause-meets
returns-in-Err-clause-meets g c =
    met_same g.C.Courier.troubles c.args.self.now.courier c.vote_own.new.self.courier c.args.work.now c.vote_own.ensures.courier
