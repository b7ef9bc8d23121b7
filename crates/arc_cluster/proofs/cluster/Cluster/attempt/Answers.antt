use Rattle.std.proofs.Common.{◌≡◌, ◌≤◌, ◌^◌, ℕ, inl, refl, sym, ◌∙◌, ap, subst}
use Rattle.arc_data.specs.Entries.{closed_len, promise}
use Rattle.arc_node.specs.Node.{kept, slots_in}
use Rattle.arc_cluster.proofs.Onward.{cluster_same}
use Rattle.arc_cluster.proofs.Statuses.{promise_fits}
use Rattle.arc_cluster.proofs.Bounds.{gives_same}
use Rattle.arc_cluster.proofs.cluster.Cluster.attempt.Goals as goal

pub returns-then-slot-max_slots-clause-go_on : goal.returns-then-slot-max_slots-clause-go_on
returns-then-slot-max_slots-clause-go_on g c =
    cluster_same g.D.Disk.faults g.D.Disk.stops_in g.D.Disk.is_tame g.C.Courier.troubles g.C.Courier.is_silent _ c.args.self.now

pub returns-then-not-is_up-clause-go_on : goal.returns-then-not-is_up-clause-go_on
returns-then-not-is_up-clause-go_on g c =
    cluster_same g.D.Disk.faults g.D.Disk.stops_in g.D.Disk.is_tame g.C.Courier.troubles g.C.Courier.is_silent _ c.args.self.now

pub returns-in_default-clause-go_on : goal.returns-in_default-clause-go_on
returns-in_default-clause-go_on g c =
    cluster_same g.D.Disk.faults g.D.Disk.stops_in g.D.Disk.is_tame g.C.Courier.troubles g.C.Courier.is_silent _ c.args.self.now

pub begin-requires-clause-in_range : goal.begin-requires-clause-in_range
begin-requires-clause-in_range g c =
    let disk = g.D.Disk in
    subst (λ (n : ℕ). n ≤ 2 ^ 63) (sym (c.promise-promise.ensures ∙ ap (λ n. promise (kept n)) c.get-own.ensures))
    (promise_fits disk.tells disk.content disk.may_leave c.args.self.now.nodes c.requires.in_order.nodes c.args.node c.requires.of_five)

pub returns-clause-go_on : goal.returns-clause-go_on
returns-clause-go_on g c = c.attempt_up.ensures.ended.on

pub returns-clause-ends : goal.returns-clause-ends
returns-clause-ends g c = c.attempt_up.ensures.ended.ends

pub returns-clause-silent : goal.returns-clause-silent
returns-clause-silent g c = c.attempt_up.ensures.ended.silent

pub returns-clause-asked : goal.returns-clause-asked
returns-clause-asked g c = c.attempt_up.ensures.ended.asks

pub returns-clause-once : goal.returns-clause-once
returns-clause-once g c = c.attempt_up.ensures.ended.once

pub returns-clause-full : goal.returns-clause-full
returns-clause-full g c = λ is.
    absurd (c.if-slot-max_slots.false
    (c.applied_len-slot.ensures ∙ ap (λ n. closed_len (kept n)) c.get-own.ensures ∙ is
    ∙ sym (c.max_slots.ensures ∙ ap slots_in c.get-own.ensures)))

pub returns-then-slot-max_slots-clause-bounds : goal.returns-then-slot-max_slots-clause-bounds
returns-then-slot-max_slots-clause-bounds g c = gives_same 1 2 c.args.self.now.nodes

pub returns-then-not-is_up-clause-bounds : goal.returns-then-not-is_up-clause-bounds
returns-then-not-is_up-clause-bounds g c = gives_same 1 2 c.args.self.now.nodes

pub returns-in_default-clause-bounds : goal.returns-in_default-clause-bounds
returns-in_default-clause-bounds g c = gives_same 1 2 c.args.self.now.nodes

pub returns-then-slot-max_slots-clause-once : goal.returns-then-slot-max_slots-clause-once
returns-then-slot-max_slots-clause-once g c = λ peer lt. inl refl

pub returns-then-not-is_up-clause-once : goal.returns-then-not-is_up-clause-once
returns-then-not-is_up-clause-once g c = λ peer lt. inl refl

pub returns-in_default-clause-once : goal.returns-in_default-clause-once
returns-in_default-clause-once g c = λ peer lt. inl refl
