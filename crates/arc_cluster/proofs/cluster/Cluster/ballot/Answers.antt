use Rattle.std.proofs.Common.{◌≡◌, ◌<◌, ◌%◌, ℕ, Bool, Ok, true, false, inl, inr, refl, sym, ◌∙◌, ap, subst, arith}
use Rattle.std.specs.List.{Contains}
use Rattle.arc_bytes.specs.Five.{at}
use Rattle.arc_data.specs.Valid.{IsValidCommand}
use Rattle.arc_data.specs.declared.command.Command.{Command}
use Rattle.arc_data.specs.declared.record.Record.TheVariants.{Promised}
use Rattle.arc_node.specs.Node.{kept}
use Rattle.arc_proposer.specs.Proposing.{ballot_of}
use Rattle.arc_cluster.specs.declared.attempt.Attempt.TheVariants.{Disturbed}
use Rattle.arc_cluster.specs.Coming.{Ended, HasCome, MayBePlaced, asks_left, asks_left_to_tell}
use Rattle.arc_cluster.specs.Phases.{IsProposerOf, IsVotedForGood, MayBeAttempted}
use Rattle.arc_cluster.proofs.Coming.{comes_on, ended_disturbed, ended_down, ended_memory, ended_wanting, passed_here, passes}
use Rattle.arc_cluster.proofs.Ending.{by_votes, no_majority_few, one_asked, one_is_left, own_promise, part_before, proposal_valid, proposer_own, proposer_still, shown_still, stands_still, still_may_then, telling_is_left, told_asked}
use Rattle.arc_cluster.proofs.Bounds.{gives_more, gives_then}
use Rattle.arc_cluster.proofs.cluster.Cluster.ballot.Goals as goal

pub prepare-requires-clause-proposer : goal.prepare-requires-clause-proposer
prepare-requires-clause-proposer g c = proposer_own c.args.proposer.now c.args.work.now c.args.c.now c.requires.proposer

pub propose-requires-clause-proposer : goal.propose-requires-clause-proposer
propose-requires-clause-proposer g c =
    let disk = g.D.Disk in
    let courier = g.C.Courier in
    let old = c.args.self.now in
    let before = c.args.work.now in
    let own : Command = c.args.c.now in
    let mid = c.prepare.new.self in
    let after = c.prepare.new.work in
    let p = c.args.proposer.now in
    let q = c.prepare.new.proposer in
    let same = c.in-Ok-true.ensures.go_on_in.same in
    proposer_still p q before after own same.endpoint same.slot
    (subst (λ (d : Command). IsProposerOf q before d) c.requires.proposer.own_is c.prepare.ensures.proposer)

pub propose-requires-clause-own : goal.propose-requires-clause-own
propose-requires-clause-own g c =
    let disk = g.D.Disk in
    let courier = g.C.Courier in
    let old = c.args.self.now in
    let before = c.args.work.now in
    let own : Command = c.args.c.now in
    let mid = c.prepare.new.self in
    let after = c.prepare.new.work in
    let p = c.args.proposer.now in
    let q = c.prepare.new.proposer in
    let under_way = c.prepare.ensures.under_way (c.in-Ok-true.is ∙ ap Ok c.in-Ok-true.field-0-test) in
    still_may_then disk.faults disk.stops_in disk.is_tame old.nodes mid.nodes before after own c.requires.under_way under_way c.in-Ok-true.ensures.go_on_in.same c.requires.own
    c.prepare.ensures.go_on.nodes

pub returns-in-Ok-true-clause-ends : goal.returns-in-Ok-true-clause-ends
returns-in-Ok-true-clause-ends g c = λ start come.
    let disk = g.D.Disk in
    let courier = g.C.Courier in
    let old = c.args.self.now in
    let before = c.args.work.now in
    let own : Command = c.args.c.now in
    let mid = c.prepare.new.self in
    let after = c.prepare.new.work in
    let p = c.args.proposer.now in
    let q = c.prepare.new.proposer in
    let on = c.in-Ok-true.ensures.go_on_in in
    let come_on = comes_on disk.faults disk.stops_in disk.is_tame courier.troubles courier.is_silent courier.asked start old mid before own p.shown (asks_left 3 before) (asks_left 1 before) (λ d. ⊥)
    come (λ d none. absurd none) c.prepare.ensures.go_on c.prepare.ensures.others c.prepare.ensures.asked after (asks_left 2 after) on
    (λ peer lt. one_asked before after 2 peer (λ is_in. (on.are_in peer lt is_in).0)) in
    subst (λ (e : ℕ). Ended disk.faults disk.stops_in disk.is_tame courier.troubles courier.is_silent courier.asked start c.propose.new.self e own c.propose.result) on.same.endpoint
    (c.propose.ensures.ends start
    (subst (λ (s : ℕ). HasCome disk.faults disk.stops_in disk.is_tame courier.troubles courier.is_silent courier.asked start mid after own s (asks_left 2 after)) (sym c.prepare.ensures.shown) come_on))

pub returns-in-Ok-false-clause-ends : goal.returns-in-Ok-false-clause-ends
returns-in-Ok-false-clause-ends g c = λ start come.
    let disk = g.D.Disk in
    let courier = g.C.Courier in
    let old = c.args.self.now in
    let before = c.args.work.now in
    let own : Command = c.args.c.now in
    let mid = c.prepare.new.self in
    let after = c.prepare.new.work in
    let p = c.args.proposer.now in
    let q = c.prepare.new.proposer in
    let passed = passes disk.faults disk.stops_in disk.is_tame courier.troubles courier.is_silent courier.asked start old mid before own p.shown (asks_left 3 before) (asks_left 1 before) (λ d. ⊥)
    come (λ d none. absurd none) c.prepare.ensures.go_on c.prepare.ensures.others c.prepare.ensures.asked (λ peer lt. one_is_left before 2 peer) c.prepare.ensures.meets in
    ended_down disk.faults disk.stops_in disk.is_tame courier.troubles courier.is_silent courier.asked start mid before.endpoint own passed
    (c.prepare.ensures.fallen (c.in-Ok-false.is ∙ ap Ok c.in-Ok-false.field-0-test))

pub returns-in-Err-clause-ends : goal.returns-in-Err-clause-ends
returns-in-Err-clause-ends g c = λ start come.
    let disk = g.D.Disk in
    let courier = g.C.Courier in
    let old = c.args.self.now in
    let before = c.args.work.now in
    let own : Command = c.args.c.now in
    let mid = c.prepare.new.self in
    let after = c.prepare.new.work in
    let p = c.args.proposer.now in
    let q = c.prepare.new.proposer in
    let passed = passes disk.faults disk.stops_in disk.is_tame courier.troubles courier.is_silent courier.asked start old mid before own p.shown (asks_left 3 before) (asks_left 1 before) (λ d. ⊥)
    come (λ d none. absurd none) c.prepare.ensures.go_on c.prepare.ensures.others c.prepare.ensures.asked (λ peer lt. one_is_left before 2 peer) c.prepare.ensures.meets in
    ended_wanting disk.faults disk.stops_in disk.is_tame courier.troubles courier.is_silent courier.asked start mid before.endpoint own passed c.wanting.result c.wanting.ensures

pub returns-in-Ok-true-clause-bounds : goal.returns-in-Ok-true-clause-bounds
returns-in-Ok-true-clause-bounds g c =
    gives_then 1 0 0 2 c.args.self.now.nodes c.prepare.new.self.nodes c.propose.new.self.nodes c.prepare.ensures.bounds c.propose.ensures.bounds

pub returns-in-Ok-false-clause-bounds : goal.returns-in-Ok-false-clause-bounds
returns-in-Ok-false-clause-bounds g c = gives_more 1 0 0 2 c.args.self.now.nodes c.prepare.new.self.nodes c.prepare.ensures.bounds

pub returns-in-Err-clause-bounds : goal.returns-in-Err-clause-bounds
returns-in-Err-clause-bounds g c = gives_more 1 0 0 2 c.args.self.now.nodes c.prepare.new.self.nodes c.prepare.ensures.bounds
