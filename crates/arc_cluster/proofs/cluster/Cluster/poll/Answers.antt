use Rattle.std.proofs.Common.{◌≡◌, ◌<◌, ◌%◌, ℕ, Bool, Ok, true, false, inl, inr, refl, sym, ◌∙◌, ap, subst, arith}
use Rattle.std.specs.List.{Contains}
use Rattle.arc_bytes.specs.Five.{at}
use Rattle.arc_data.specs.Valid.{IsValidCommand}
use Rattle.arc_data.specs.declared.command.Command.{Command}
use Rattle.arc_data.specs.declared.record.Record.TheVariants.{Promised}
use Rattle.arc_node.specs.Node.{kept}
use Rattle.arc_proposer.specs.Proposing.{ballot_of}
use Rattle.arc_cluster.specs.declared.attempt.Attempt.TheVariants.{Disturbed}
use Rattle.arc_cluster.specs.Coming.{Ended, HasCome, MayBePlaced, asks_left, asks_left_to_tell}
use Rattle.arc_cluster.specs.Phases.{IsProposerOf, IsVotedForGood, MayBeAttempted}
use Rattle.arc_cluster.proofs.Coming.{comes_on, ended_disturbed, ended_down, ended_memory, ended_wanting, passed_here, passes}
use Rattle.arc_cluster.proofs.Ending.{by_votes, no_majority_few, one_asked, one_is_left, own_promise, part_before, proposal_valid, proposer_own, proposer_still, shown_still, stands_still, still_may_then, telling_is_left, told_asked}
use Rattle.arc_cluster.proofs.Bounds.{gives_then}
use Rattle.arc_cluster.proofs.cluster.Cluster.poll.Goals as goal

pub vote-requires-clause-proposer : goal.vote-requires-clause-proposer
vote-requires-clause-proposer g c = proposer_own c.args.proposer.now c.args.work.now c.args.c.now c.requires.proposer

pub vote-requires-clause-own : goal.vote-requires-clause-own
vote-requires-clause-own g c =
    subst (λ (d : Command). MayBeAttempted c.args.self.now.nodes c.args.work.now.endpoint d) (sym c.requires.proposer.own_is) c.requires.own

pub close-requires-clause-chosen : goal.close-requires-clause-chosen
close-requires-clause-chosen g c =
    let disk = g.D.Disk in
    let courier = g.C.Courier in
    let old = c.args.self.now in
    let before = c.args.work.now in
    let own : Command = c.args.c.now in
    let mid = c.vote.new.self in
    let after = c.vote.new.work in
    let p = c.args.proposer.now in
    let proposal : Command = c.args.proposal.now in
    subst (λ (s : ℕ). IsVotedForGood mid.nodes s proposal) (sym c.in-Ok-Chosen.ensures.go_on_in.same.slot)
    (c.vote.ensures.chosen (c.in-Ok-Chosen.is ∙ ap Ok c.in-Ok-Chosen.field-0-is)).1

pub returns-in-Ok-Chosen-clause-ends : goal.returns-in-Ok-Chosen-clause-ends
returns-in-Ok-Chosen-clause-ends g c = λ start come.
    let disk = g.D.Disk in
    let courier = g.C.Courier in
    let old = c.args.self.now in
    let before = c.args.work.now in
    let own : Command = c.args.c.now in
    let mid = c.vote.new.self in
    let after = c.vote.new.work in
    let p = c.args.proposer.now in
    let proposal : Command = c.args.proposal.now in
    let on = c.in-Ok-Chosen.ensures.go_on_in in
    let come_on = comes_on disk.faults disk.stops_in disk.is_tame courier.troubles courier.is_silent courier.asked start old mid before own p.shown (asks_left 2 before) (asks_left 1 before) (λ d. d ≡ p.own)
    come (λ d is. is ∙ c.requires.proposer.own_is) c.vote.ensures.go_on c.vote.ensures.others c.vote.ensures.asked after (asks_left 1 after) on
    (λ peer lt. one_asked before after 1 peer (λ is_in. (on.are_in peer lt is_in).0)) in
    let part = (c.vote.ensures.chosen (c.in-Ok-Chosen.is ∙ ap Ok c.in-Ok-Chosen.field-0-is)).2 in
    let may = by_votes disk.faults disk.stops_in disk.is_tame courier.troubles courier.is_silent courier.asked start old before own proposal p.shown (asks_left 2 before) come part in
    subst (λ (e : ℕ). Ended disk.faults disk.stops_in disk.is_tame courier.troubles courier.is_silent courier.asked start c.close.new.self e own c.close.result) on.same.endpoint
    (c.close.ensures.ends start p.shown come_on (subst (λ (e : ℕ). MayBePlaced courier.is_silent start e own proposal) (sym on.same.endpoint) may))

pub returns-in-Ok-TooFew-clause-ends : goal.returns-in-Ok-TooFew-clause-ends
returns-in-Ok-TooFew-clause-ends g c = λ start come.
    let disk = g.D.Disk in
    let courier = g.C.Courier in
    let old = c.args.self.now in
    let before = c.args.work.now in
    let own : Command = c.args.c.now in
    let mid = c.vote.new.self in
    let after = c.vote.new.work in
    let p = c.args.proposer.now in
    let proposal : Command = c.args.proposal.now in
    let on = c.in-Ok-TooFew.ensures.go_on_in in
    let come_on = comes_on disk.faults disk.stops_in disk.is_tame courier.troubles courier.is_silent courier.asked start old mid before own p.shown (asks_left 2 before) (asks_left 1 before) (λ d. d ≡ p.own)
    come (λ d is. is ∙ c.requires.proposer.own_is) c.vote.ensures.go_on c.vote.ensures.others c.vote.ensures.asked after (asks_left 1 after) on
    (λ peer lt. one_asked before after 1 peer (λ is_in. (on.are_in peer lt is_in).0)) in
    let few = c.vote.ensures.too_few (c.in-Ok-TooFew.is ∙ ap Ok c.in-Ok-TooFew.field-0-is) in
    let mine = own_promise old.nodes before p own c.requires.under_way c.requires.proposer c.requires.promised in
    let five = c.requires.under_way.peers.of_five in
    let there = stands_still (at old.nodes before.endpoint) (at mid.nodes before.endpoint) (Promised before.slot (ballot_of p))
    (c.vote.ensures.go_on.nodes.each before.endpoint five).entries mine.2 in
    let there_then : Contains (kept (at mid.nodes after.endpoint)) (Promised after.slot (ballot_of p)) =
    subst (λ (e : ℕ). Contains (kept (at mid.nodes e)) (Promised after.slot (ballot_of p))) (sym on.same.endpoint)
    (subst (λ (s : ℕ). Contains (kept (at mid.nodes before.endpoint)) (Promised s (ballot_of p))) (sym on.same.slot) there) in
    subst (λ (e : ℕ). Ended disk.faults disk.stops_in disk.is_tame courier.troubles courier.is_silent courier.asked start mid e own (Disturbed c.tally.result)) on.same.endpoint
    (ended_disturbed disk.faults disk.stops_in disk.is_tame courier.troubles courier.is_silent courier.asked start mid after own p.shown (asks_left 1 after) c.tally.result come_on few.0 c.tally.ensures.clear
    c.tally.ensures.slot c.tally.ensures.five few.1 (ballot_of p) (mine.0 ∙ sym on.same.endpoint) mine.1 there_then)

pub returns-in-Ok-Fallen-clause-ends : goal.returns-in-Ok-Fallen-clause-ends
returns-in-Ok-Fallen-clause-ends g c = λ start come.
    let disk = g.D.Disk in
    let courier = g.C.Courier in
    let old = c.args.self.now in
    let before = c.args.work.now in
    let own : Command = c.args.c.now in
    let mid = c.vote.new.self in
    let after = c.vote.new.work in
    let p = c.args.proposer.now in
    let proposal : Command = c.args.proposal.now in
    let passed = passes disk.faults disk.stops_in disk.is_tame courier.troubles courier.is_silent courier.asked start old mid before own p.shown (asks_left 2 before) (asks_left 1 before) (λ d. d ≡ p.own)
    come (λ d is. is ∙ c.requires.proposer.own_is) c.vote.ensures.go_on c.vote.ensures.others c.vote.ensures.asked (λ peer lt. one_is_left before 1 peer) c.vote.ensures.meets in
    ended_down disk.faults disk.stops_in disk.is_tame courier.troubles courier.is_silent courier.asked start mid before.endpoint own passed (c.vote.ensures.fallen (c.in-Ok-Fallen.is ∙ ap Ok c.in-Ok-Fallen.field-0-is))

pub returns-in-Err-clause-ends : goal.returns-in-Err-clause-ends
returns-in-Err-clause-ends g c = λ start come.
    let disk = g.D.Disk in
    let courier = g.C.Courier in
    let old = c.args.self.now in
    let before = c.args.work.now in
    let own : Command = c.args.c.now in
    let mid = c.vote.new.self in
    let after = c.vote.new.work in
    let p = c.args.proposer.now in
    let proposal : Command = c.args.proposal.now in
    let passed = passes disk.faults disk.stops_in disk.is_tame courier.troubles courier.is_silent courier.asked start old mid before own p.shown (asks_left 2 before) (asks_left 1 before) (λ d. d ≡ p.own)
    come (λ d is. is ∙ c.requires.proposer.own_is) c.vote.ensures.go_on c.vote.ensures.others c.vote.ensures.asked (λ peer lt. one_is_left before 1 peer) c.vote.ensures.meets in
    ended_wanting disk.faults disk.stops_in disk.is_tame courier.troubles courier.is_silent courier.asked start mid before.endpoint own passed c.wanting.result c.wanting.ensures

pub returns-in-Ok-Chosen-clause-bounds : goal.returns-in-Ok-Chosen-clause-bounds
returns-in-Ok-Chosen-clause-bounds g c =
    gives_then 0 2 0 0 c.args.self.now.nodes c.vote.new.self.nodes c.close.new.self.nodes c.vote.ensures.bounds c.close.ensures.bounds
