use Rattle.std.proofs.Common.{◌≡◌, ◌<◌, ◌%◌, ◌+◌, ◌-◌, ◌/◌, if◌then◌else◌, ℕ, Bool, Ok, true, false, inl, inr, refl, sym, ◌∙◌, ap, subst, arith}
use Rattle.std.specs.List.{Contains}
use Rattle.arc_bytes.specs.Five.{at}
use Rattle.arc_data.specs.Valid.{IsValidCommand}
use Rattle.arc_data.specs.declared.command.Command.{Command}
use Rattle.arc_data.specs.declared.record.Record.TheVariants.{Promised}
use Rattle.arc_node.specs.Node.{kept}
use Rattle.arc_proposer.specs.Proposing.{ballot_of}
use Rattle.arc_cluster.specs.declared.attempt.Attempt.TheVariants.{Disturbed}
use Rattle.arc_cluster.specs.Coming.{Ended, HasCome, MayBePlaced, asks_left, asks_left_to_tell}
use Rattle.arc_cluster.specs.Phases.{IsProposerOf, IsVotedForGood, MayBeAttempted}
use Rattle.arc_cluster.proofs.Coming.{comes_on, ended_disturbed, ended_down, ended_memory, ended_wanting, passed_here, passes}
use Rattle.arc_cluster.proofs.Ending.{by_votes, no_majority_few, one_asked, one_is_left, own_promise, part_before, proposal_valid, proposer_own, proposer_still, shown_still, stands_still, still_may_then, telling_is_left, told_asked}
use Rattle.arc_cluster.proofs.Bounds.{gives_counts, gives_more, gives_then}
use Rattle.arc_cluster.proofs.cluster.Cluster.catch_up.Goals as goal

pub ballot-requires-clause-proposer : goal.ballot-requires-clause-proposer
ballot-requires-clause-proposer g c =
    let same = c.in-Ok.ensures.go_on_in.same in
    proposer_still c.args.proposer.now c.args.proposer.now c.args.work.now c.catch_up_peers.new.work c.args.c.now same.endpoint same.slot c.requires.proposer

pub ballot-requires-clause-shown : goal.ballot-requires-clause-shown
ballot-requires-clause-shown g c =
    let disk = g.D.Disk in
    let courier = g.C.Courier in
    let old = c.args.self.now in
    let before = c.args.work.now in
    let own : Command = c.args.c.now in
    let mid = c.catch_up_peers.new.self in
    let after = c.catch_up_peers.new.work in
    let p = c.args.proposer.now in
    let used : ℕ → ℕ = λ peer. if at before.peers peer then (before.slot - at before.lengths peer + 15) / 16 else 0 in
    shown_still old.nodes mid.nodes (λ d. ⊥) before after p.shown c.catch_up_peers.ensures.go_on.nodes.follow c.catch_up_peers.ensures.promises
    (part_before courier.troubles old mid before after c.in-Ok.ensures.go_on_in) c.requires.shown

pub ballot-requires-clause-own : goal.ballot-requires-clause-own
ballot-requires-clause-own g c =
    let disk = g.D.Disk in
    let courier = g.C.Courier in
    let old = c.args.self.now in
    let before = c.args.work.now in
    let own : Command = c.args.c.now in
    let mid = c.catch_up_peers.new.self in
    let after = c.catch_up_peers.new.work in
    let p = c.args.proposer.now in
    let used : ℕ → ℕ = λ peer. if at before.peers peer then (before.slot - at before.lengths peer + 15) / 16 else 0 in
    still_may_then disk.faults disk.stops_in disk.is_tame old.nodes mid.nodes before after own c.requires.under_way c.in-Ok.ensures.under_way c.in-Ok.ensures.go_on_in.same c.requires.own
    c.catch_up_peers.ensures.go_on.nodes

pub returns-in-Ok-clause-ends : goal.returns-in-Ok-clause-ends
returns-in-Ok-clause-ends g c = λ start come.
    let disk = g.D.Disk in
    let courier = g.C.Courier in
    let old = c.args.self.now in
    let before = c.args.work.now in
    let own : Command = c.args.c.now in
    let mid = c.catch_up_peers.new.self in
    let after = c.catch_up_peers.new.work in
    let p = c.args.proposer.now in
    let used : ℕ → ℕ = λ peer. if at before.peers peer then (before.slot - at before.lengths peer + 15) / 16 else 0 in
    let on = c.in-Ok.ensures.go_on_in in
    let come_on = comes_on disk.faults disk.stops_in disk.is_tame courier.troubles courier.is_silent courier.asked start old mid before own p.shown (asks_left_to_tell before) used (λ d. ⊥)
    come (λ d none. absurd none) c.catch_up_peers.ensures.go_on (λ node lt other out. c.catch_up_peers.ensures.others node lt out) c.catch_up_peers.ensures.asked after (asks_left 3 after) on
    (λ peer lt. told_asked before after peer (λ is_in. (on.are_in peer lt is_in).0)) in
    subst (λ (e : ℕ). Ended disk.faults disk.stops_in disk.is_tame courier.troubles courier.is_silent courier.asked start c.ballot.new.self e own c.ballot.result) on.same.endpoint (c.ballot.ensures.ends start come_on)

pub returns-in-Err-clause-ends : goal.returns-in-Err-clause-ends
returns-in-Err-clause-ends g c = λ start come.
    let disk = g.D.Disk in
    let courier = g.C.Courier in
    let old = c.args.self.now in
    let before = c.args.work.now in
    let own : Command = c.args.c.now in
    let mid = c.catch_up_peers.new.self in
    let after = c.catch_up_peers.new.work in
    let p = c.args.proposer.now in
    let used : ℕ → ℕ = λ peer. if at before.peers peer then (before.slot - at before.lengths peer + 15) / 16 else 0 in
    let passed = passes disk.faults disk.stops_in disk.is_tame courier.troubles courier.is_silent courier.asked start old mid before own p.shown (asks_left_to_tell before) used (λ d. ⊥)
    come (λ d none. absurd none) c.catch_up_peers.ensures.go_on (λ node lt other out. c.catch_up_peers.ensures.others node lt out) c.catch_up_peers.ensures.asked
    (λ peer lt. telling_is_left before peer) c.catch_up_peers.ensures.meets in
    ended_wanting disk.faults disk.stops_in disk.is_tame courier.troubles courier.is_silent courier.asked start mid before.endpoint own passed c.wanting.result c.wanting.ensures

pub returns-in-Ok-clause-bounds : goal.returns-in-Ok-clause-bounds
returns-in-Ok-clause-bounds g c =
    let mid = c.catch_up_peers.new.self.nodes in
    gives_then 0 0 1 2 c.args.self.now.nodes mid c.ballot.new.self.nodes (gives_counts c.args.self.now.nodes mid c.catch_up_peers.ensures.counts) c.ballot.ensures.bounds

pub returns-in-Err-clause-bounds : goal.returns-in-Err-clause-bounds
returns-in-Err-clause-bounds g c =
    let mid = c.catch_up_peers.new.self.nodes in
    gives_more 0 0 1 2 c.args.self.now.nodes mid (gives_counts c.args.self.now.nodes mid c.catch_up_peers.ensures.counts)
