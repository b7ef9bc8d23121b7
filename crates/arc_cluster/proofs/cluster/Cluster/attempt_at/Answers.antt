use Rattle.std.proofs.Common.{◌≡◌, ◌<◌, ◌%◌, ◌+◌, ◌-◌, ◌/◌, ◌≤◌, if◌then◌else◌, IfSome, ℕ, Bool, Ok, true, false, inl, inr, refl, sym, ◌∙◌, ap, subst, arith}
use Rattle.std.specs.List.{Contains}
use Rattle.arc_bytes.specs.Five.{at}
use Rattle.arc_data.specs.Valid.{IsValidCommand}
use Rattle.arc_data.specs.declared.command.Command.{Command}
use Rattle.arc_data.specs.declared.record.Record.TheVariants.{Promised}
use Rattle.arc_node.specs.Node.{kept}
use Rattle.arc_proposer.specs.Proposing.{ballot_of}
use Rattle.arc_cluster.specs.declared.attempt.Attempt.TheVariants.{Disturbed}
use Rattle.arc_cluster.specs.Coming.{Ended, HasCome, MayBePlaced, asks_left, asks_left_to_tell}
use Rattle.arc_cluster.specs.Phases.{IsKnown, IsProposerOf, IsVotedForGood, MayBeAttempted}
use Rattle.arc_cluster.proofs.Coming.{comes_on, ended_disturbed, ended_down, ended_memory, ended_wanting, passed_here, passes}
use Rattle.arc_cluster.proofs.Ending.{by_known, by_votes, comes_first, first_and_left, same_left, known_for_good, passes_first, no_majority_few, one_asked, one_is_left, own_promise, part_before, proposal_valid, proposer_own, proposer_still, shown_still, stands_still, still_may_then, telling_is_left, told_asked}
use Rattle.arc_data.specs.Entries.{closed_len, promise}
use Rattle.arc_cluster.proofs.Bounds.{gives_lists, gives_more, gives_then}
use Rattle.arc_cluster.proofs.cluster.Cluster.attempt_at.Goals as goal

pub ask-requires-clause-proposer : goal.ask-requires-clause-proposer
ask-requires-clause-proposer g c = proposer_own c.args.proposer.now c.args.work.now c.args.c.now c.requires.proposer

pub close_known-end-requires-clause-chosen : goal.close_known-end-requires-clause-chosen
close_known-end-requires-clause-chosen g c =
    let disk = g.D.Disk in
    let courier = g.C.Courier in
    let old = c.args.self.now in
    let before = c.args.work.now in
    let own : Command = c.args.c.now in
    let mid = c.ask.new.self in
    let after = c.ask.new.work in
    let p = c.args.proposer.now in
    let q = c.ask.new.proposer in
    let known : Command = c.in-Ok-Some.known in
    let is_known = subst (λ o. IfSome o (λ d. IsKnown mid.nodes after d)) c.in-Ok-Some.field-0-is c.in-Ok-Some.ensures.known in
    (known_for_good disk.tells disk.content disk.may_leave mid.nodes c.ask.ensures.in_order.nodes after known is_known).0

pub close_known-end-requires-clause-valid : goal.close_known-end-requires-clause-valid
close_known-end-requires-clause-valid g c =
    let disk = g.D.Disk in
    let courier = g.C.Courier in
    let old = c.args.self.now in
    let before = c.args.work.now in
    let own : Command = c.args.c.now in
    let mid = c.ask.new.self in
    let after = c.ask.new.work in
    let p = c.args.proposer.now in
    let q = c.ask.new.proposer in
    let known : Command = c.in-Ok-Some.known in
    let is_known = subst (λ o. IfSome o (λ d. IsKnown mid.nodes after d)) c.in-Ok-Some.field-0-is c.in-Ok-Some.ensures.known in
    (known_for_good disk.tells disk.content disk.may_leave mid.nodes c.ask.ensures.in_order.nodes after known is_known).1

pub catch_up-requires-clause-proposer : goal.catch_up-requires-clause-proposer
catch_up-requires-clause-proposer g c =
    let disk = g.D.Disk in
    let courier = g.C.Courier in
    let old = c.args.self.now in
    let before = c.args.work.now in
    let own : Command = c.args.c.now in
    let mid = c.ask.new.self in
    let after = c.ask.new.work in
    let p = c.args.proposer.now in
    let q = c.ask.new.proposer in
    let none_known = c.in-Ok-None.is ∙ ap Ok c.in-Ok-None.field-0-is in
    let on = c.in-Ok-None.ensures.go_on_in in
    proposer_still p q before after own on.same.endpoint on.same.slot
    (subst (λ (d : Command). IsProposerOf q before d) c.requires.proposer.own_is c.ask.ensures.proposer)

pub catch_up-requires-clause-own : goal.catch_up-requires-clause-own
catch_up-requires-clause-own g c =
    let disk = g.D.Disk in
    let courier = g.C.Courier in
    let old = c.args.self.now in
    let before = c.args.work.now in
    let own : Command = c.args.c.now in
    let mid = c.ask.new.self in
    let after = c.ask.new.work in
    let p = c.args.proposer.now in
    let q = c.ask.new.proposer in
    let none_known = c.in-Ok-None.is ∙ ap Ok c.in-Ok-None.field-0-is in
    let on = c.in-Ok-None.ensures.go_on_in in
    still_may_then disk.faults disk.stops_in disk.is_tame old.nodes mid.nodes before after own c.requires.under_way c.in-Ok-None.ensures.under_way on.same c.requires.own
    c.ask.ensures.go_on.nodes

pub returns-in-Ok-Some-clause-ended : goal.returns-in-Ok-Some-clause-ended
returns-in-Ok-Some-clause-ended g c =
    let disk = g.D.Disk in
    let courier = g.C.Courier in
    let old = c.args.self.now in
    let before = c.args.work.now in
    let own : Command = c.args.c.now in
    let mid = c.ask.new.self in
    let after = c.ask.new.work in
    let p = c.args.proposer.now in
    let q = c.ask.new.proposer in
    let known : Command = c.in-Ok-Some.known in
    let is_known = subst (λ o. IfSome o (λ d. IsKnown mid.nodes after d)) c.in-Ok-Some.field-0-is c.in-Ok-Some.ensures.known in
    let on = c.in-Ok-Some.ensures.go_on_in in
    let shown : ℕ = promise (kept (at old.nodes before.endpoint)) in
    let come = comes_first disk.faults disk.stops_in disk.is_tame courier.troubles courier.is_silent courier.asked old mid before after own c.requires.under_way c.requires.peers c.ask.ensures.go_on c.ask.ensures.lists c.ask.ensures.asked shown (asks_left 0 after) on (omega arith) c.in-Ok-Some.ensures.silent
    (λ peer lt. first_and_left old.nodes before.endpoint before peer (at after.peers peer) 0 (c.requires.peers peer lt) (λ is_in. (on.are_in peer lt is_in).0)
    (λ is_in. omega arith)) in
    subst (λ (e : ℕ). Ended disk.faults disk.stops_in disk.is_tame courier.troubles courier.is_silent courier.asked old c.close_known-end.new.self e own c.close_known-end.result) on.same.endpoint
    (c.close_known-end.ensures.ends old shown come (by_known courier.is_silent old mid after after.endpoint own known c.ask.ensures.lists is_known))

pub returns-in-Ok-None-clause-ended : goal.returns-in-Ok-None-clause-ended
returns-in-Ok-None-clause-ended g c =
    let disk = g.D.Disk in
    let courier = g.C.Courier in
    let old = c.args.self.now in
    let before = c.args.work.now in
    let own : Command = c.args.c.now in
    let mid = c.ask.new.self in
    let after = c.ask.new.work in
    let p = c.args.proposer.now in
    let q = c.ask.new.proposer in
    let none_known = c.in-Ok-None.is ∙ ap Ok c.in-Ok-None.field-0-is in
    let on = c.in-Ok-None.ensures.go_on_in in
    let five = c.requires.under_way.peers.of_five in
    let covers = (c.ask.ensures.shown none_known).covers after.endpoint (subst (λ (e : ℕ). e < 5) (sym on.same.endpoint) five) (inl refl) in
    let above : promise (kept (at old.nodes before.endpoint)) ≤ q.shown =
    subst (λ xs. promise xs ≤ q.shown) (c.ask.ensures.lists before.endpoint five)
    (subst (λ (e : ℕ). promise (kept (at mid.nodes e)) ≤ q.shown) on.same.endpoint covers) in
    let told = (c.ask.ensures.lengths none_known).lengths in
    let come = comes_first disk.faults disk.stops_in disk.is_tame courier.troubles courier.is_silent courier.asked old mid before after own c.requires.under_way c.requires.peers c.ask.ensures.go_on c.ask.ensures.lists c.ask.ensures.asked q.shown (asks_left_to_tell after) on above c.in-Ok-None.ensures.silent
    (λ peer lt. first_and_left old.nodes before.endpoint before peer (at after.peers peer) ((after.slot - at after.lengths peer + 15) / 16 + 3) (c.requires.peers peer lt)
    (λ is_in. (on.are_in peer lt is_in).0)
    (λ is_in. same_left after.slot (at after.lengths peer) (closed_len (kept (at old.nodes before.endpoint))) (closed_len (kept (at old.nodes peer)))
    (on.same.slot ∙ c.requires.under_way.open_slot) (sym (told peer lt is_in).0 ∙ ap closed_len (c.ask.ensures.lists peer lt)))) in
    subst (λ (e : ℕ). Ended disk.faults disk.stops_in disk.is_tame courier.troubles courier.is_silent courier.asked old c.catch_up.new.self e own c.catch_up.result) on.same.endpoint (c.catch_up.ensures.ends old come)

pub returns-in-Err-clause-ended : goal.returns-in-Err-clause-ended
returns-in-Err-clause-ended g c =
    let disk = g.D.Disk in
    let courier = g.C.Courier in
    let old = c.args.self.now in
    let before = c.args.work.now in
    let own : Command = c.args.c.now in
    let mid = c.ask.new.self in
    let after = c.ask.new.work in
    let p = c.args.proposer.now in
    let q = c.ask.new.proposer in
    ended_wanting disk.faults disk.stops_in disk.is_tame courier.troubles courier.is_silent courier.asked old mid before.endpoint own (passes_first disk.faults disk.stops_in disk.is_tame courier.troubles courier.is_silent courier.asked old mid before after own c.requires.under_way c.requires.peers c.ask.ensures.go_on c.ask.ensures.lists c.ask.ensures.asked c.ask.ensures.meets) c.wanting.result c.wanting.ensures

pub returns-in-Ok-Some-clause-bounds : goal.returns-in-Ok-Some-clause-bounds
returns-in-Ok-Some-clause-bounds g c =
    let mid = c.ask.new.self.nodes in
    let end = c.close_known-end.new.self.nodes in
    gives_then 0 0 1 2 c.args.self.now.nodes mid end (gives_lists 0 0 c.args.self.now.nodes mid c.ask.ensures.lists) (gives_more 0 0 1 2 mid end c.close_known-end.ensures.bounds)

pub returns-in-Ok-None-clause-bounds : goal.returns-in-Ok-None-clause-bounds
returns-in-Ok-None-clause-bounds g c =
    let mid = c.ask.new.self.nodes in
    gives_then 0 0 1 2 c.args.self.now.nodes mid c.catch_up.new.self.nodes (gives_lists 0 0 c.args.self.now.nodes mid c.ask.ensures.lists) c.catch_up.ensures.bounds

pub returns-in-Err-clause-bounds : goal.returns-in-Err-clause-bounds
returns-in-Err-clause-bounds g c =
    let mid = c.ask.new.self.nodes in
    gives_lists 1 2 c.args.self.now.nodes mid c.ask.ensures.lists
