use Rattle.std.proofs.Common.{◌≡◌, ⊎_elim, true, true≢false, sym, ◌∙◌, ap}
use Rattle.arc_bytes.specs.Five.{at}
use Rattle.arc_cluster.proofs.Placing.{next_ids_are_in_range}
use Rattle.arc_data.specs.Entries.{closed_len}
use Rattle.arc_node.specs.Node.{is_up, kept, slots_in}
use Rattle.arc_engine.proofs.Drawn.{down_ends, drawn_is_of_call, drawn_is_valid, full_ends, told_is_next, wanting_ends}
use Rattle.arc_engine.proofs.engine.Engine.call.Goals as goal

pub returns-then-length-max_slots-clause-ends : goal.returns-then-length-max_slots-clause-ends
returns-then-length-max_slots-clause-ends g c =
    let disk = g.D.Disk in
    let courier = g.C.Courier in
    let closed = c.applied_len-length.ensures ∙ ap (λ n. closed_len (kept n)) c.node-own.ensures in
    let most = c.if-length-max_slots.true ∙ c.max_slots.ensures ∙ ap slots_in c.node-own.ensures in
    full_ends disk.tells disk.content disk.may_leave disk.faults disk.stops_in disk.is_tame courier.troubles courier.is_silent courier.asked
    c.args.self.now c.args.node c.args.at_ms c.args.token c.args.op.now c.requires.in_order.cluster.nodes c.requires.of_five
    c.applied_len-length.result most closed

pub returns-then-not-is_up-clause-ends : goal.returns-then-not-is_up-clause-ends
returns-then-not-is_up-clause-ends g c =
    let disk = g.D.Disk in
    let courier = g.C.Courier in
    down_ends disk.tells disk.content disk.may_leave disk.faults disk.stops_in disk.is_tame courier.troubles courier.is_silent courier.asked
    c.args.self.now c.args.node c.args.at_ms c.args.token c.args.op.now c.requires.in_order.cluster.nodes c.requires.of_five
    (ap is_up (sym c.node-own.ensures) ∙ sym c.is_up.ensures ∙ c.if-not-is_up.true)

pub returns-in_default-clause-ends : goal.returns-in_default-clause-ends
returns-in_default-clause-ends g c =
    let disk = g.D.Disk in
    let courier = g.C.Courier in
    wanting_ends disk.tells disk.content disk.may_leave disk.faults disk.stops_in disk.is_tame courier.troubles courier.is_silent courier.asked
    c.args.self.now c.args.node c.args.at_ms c.args.token c.args.op.now c.requires.in_order.cluster.nodes c.requires.of_five
    (ap is_up (sym c.node-own.ensures) ∙ sym c.is_up.ensures ∙ c.if-not-is_up.false)

pub call_up-end-requires-clause-valid : goal.call_up-end-requires-clause-valid
call_up-end-requires-clause-valid g c =
    let disk = g.D.Disk in
    let nodes = c.args.self.now.cluster.nodes in
    let told = c.next_id.ensures in
    let up : is_up (at nodes c.args.node) ≡ true = ap is_up (sym c.node-own.ensures) ∙ sym c.is_up.ensures ∙ c.if-not-is_up.false in
    let next = told_is_next (at nodes c.args.node) c.node-own.result.now c.next_id.result c.node-own.ensures told.node told.inc told.n in
    drawn_is_valid c.next_id.result c.args.at_ms c.args.token c.args.op.now c.in-Ok.command c.in-Ok.ensures
    (next_ids_are_in_range disk.tells disk.content disk.may_leave nodes c.args.node c.next_id.result c.requires.in_order.cluster.nodes
    c.requires.of_five up next) c.requires.in_time c.requires.valid

pub returns-clause-ends : goal.returns-clause-ends
returns-clause-ends g c =
    let disk = g.D.Disk in
    let old = c.args.self.now in
    let nodes = old.cluster.nodes in
    let told = c.next_id.ensures in
    let done = c.call_up-end.ensures in
    let up : is_up (at nodes c.args.node) ≡ true = ap is_up (sym c.node-own.ensures) ∙ sym c.is_up.ensures ∙ c.if-not-is_up.false in
    let next = told_is_next (at nodes c.args.node) c.node-own.result.now c.next_id.result c.node-own.ensures told.node told.inc told.n in
    record {
      c = c.in-Ok.command;
      is_of_call = drawn_is_of_call disk.tells disk.content disk.may_leave old c.args.node c.args.at_ms c.args.token c.args.op.now
          c.requires.in_order.cluster.nodes c.requires.of_five c.next_id.result c.in-Ok.command c.in-Ok.ensures next;
      go_on = done.go_on;
      idle = λ still.
          ⊎_elim (λ down. absurd (true≢false (sym up ∙ down)))
          (λ full. absurd (c.if-length-max_slots.false
          (c.applied_len-length.ensures ∙ ap (λ n. closed_len (kept n)) c.node-own.ensures ∙ full
          ∙ sym (c.max_slots.ensures ∙ ap slots_in c.node-own.ensures)))) still;
      grows = done.grows;
      attempts = done.attempts;
      ends = done.ends;
    }
