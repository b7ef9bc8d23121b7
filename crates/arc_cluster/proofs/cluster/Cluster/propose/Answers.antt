use Rattle.std.proofs.Common.{◌≡◌, ◌<◌, ◌%◌, ℕ, Bool, Ok, true, false, inl, inr, refl, sym, ◌∙◌, ap, subst, arith}
use Rattle.std.specs.List.{Contains}
use Rattle.arc_bytes.specs.Five.{at}
use Rattle.arc_data.specs.Valid.{IsValidCommand}
use Rattle.arc_data.specs.declared.command.Command.{Command}
use Rattle.arc_data.specs.declared.record.Record.TheVariants.{Promised}
use Rattle.arc_node.specs.Node.{kept}
use Rattle.arc_proposer.specs.Proposing.{ballot_of}
use Rattle.arc_cluster.specs.declared.attempt.Attempt.TheVariants.{Disturbed}
use Rattle.arc_cluster.specs.Coming.{Ended, HasCome, MayBePlaced, asks_left, asks_left_to_tell}
use Rattle.arc_cluster.specs.Phases.{IsProposerOf, IsVotedForGood, MayBeAttempted}
use Rattle.arc_cluster.proofs.Coming.{comes_on, ended_disturbed, ended_down, ended_memory, ended_wanting, passed_here, passes}
use Rattle.arc_cluster.proofs.Ending.{by_votes, no_majority_few, one_asked, one_is_left, own_promise, part_before, proposal_valid, proposer_own, proposer_still, shown_still, stands_still, still_may_then, telling_is_left, told_asked}
use Rattle.arc_cluster.proofs.Bounds.{gives_same}
use Rattle.arc_cluster.proofs.cluster.Cluster.propose.Goals as goal

pub poll-end-requires-clause-valid : goal.poll-end-requires-clause-valid
poll-end-requires-clause-valid g c =
    let disk = g.D.Disk in
    let courier = g.C.Courier in
    let old = c.args.self.now in
    let before = c.args.work.now in
    let own : Command = c.args.c.now in
    let p = c.args.proposer.now in
    let own_valid : IsValidCommand p.own = subst IsValidCommand (sym c.requires.proposer.own_is) c.requires.own.valid in
    subst IsValidCommand (sym (c.in-Ok.ensures ∙ c.in-Some.ensures.value))
    (proposal_valid disk.tells disk.content disk.may_leave old.nodes c.requires.in_order.nodes before p own_valid c.requires.promised)

pub returns-in_default-clause-ends : goal.returns-in_default-clause-ends
returns-in_default-clause-ends g c = λ start come.
    let disk = g.D.Disk in
    let courier = g.C.Courier in
    let old = c.args.self.now in
    let before = c.args.work.now in
    let own : Command = c.args.c.now in
    let p = c.args.proposer.now in
    let mine = own_promise old.nodes before p own c.requires.under_way c.requires.proposer c.requires.promised in
    ended_disturbed disk.faults disk.stops_in disk.is_tame courier.troubles courier.is_silent courier.asked start old before own p.shown (asks_left 2 before) c.tally.result come c.requires.under_way c.tally.ensures.clear
    c.tally.ensures.slot c.tally.ensures.five (no_majority_few old.nodes before p own c.requires.under_way c.requires.proposer c.requires.promised c.in_default.ensures.none)
    (ballot_of p) mine.0 mine.1 mine.2

pub returns-in_default-clause-bounds : goal.returns-in_default-clause-bounds
returns-in_default-clause-bounds g c = gives_same 0 2 c.args.self.now.nodes
