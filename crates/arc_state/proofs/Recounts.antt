-- What is told doesn't depend on the number of commands.
use Rattle.std.proofs.Common.{◌≡◌, ◌+◌, ◌≤◌, ℕ, All, max, false, Result, Ok, Err, IfOk, refl, sym, ap, ◌∙◌, arith}
use Rattle.std.proofs.lemmas.Bool.{le-ltb}
use Rattle.arc_bytes.specs.declared.outcome.Memory.{Memory}
use Rattle.arc_data.specs.declared.command.Command.{Command}
use Rattle.arc_data.specs.declared.reply.Reply.{Reply}
use Rattle.arc_plain.specs.State.{Plain}
use Rattle.arc_plain.specs.Cluster.{arrived, effect_of, is_ahead, reply_of}
use Rattle.arc_plain.specs.Reads.{Telling, get_managed_resource, get_routing_control_state, list_managed_resources, list_routing_controls, list_safety_rules, list_zonal_shifts, told_in}
use Rattle.arc_state.specs.declared.parts.Parts.{Parts}
use Rattle.arc_state.specs.declared.read.ReadOp.{ReadOp}
use Rattle.arc_state.specs.declared.read.ReadOp.TheVariants as read
use Rattle.arc_state.specs.Reading.{Answers, AnswersNow, op_of}
use Rattle.arc_state.specs.Standing.{AreTimely}
use Rattle.arc_state.specs.State.{AreKept}

-- kept parts are timely
pub timely : (parts : Parts) → AreKept parts → AreTimely parts
timely parts kept = record {
  in_time = kept.in_time;
  runs_started = λ k d within.
      let begun : All (λ r. (r.id.0 ≤ kept.plain.shifts_drawn) × (r.start ≤ kept.plain.time)) parts.practices.runs =
      rw kept.stands.practices kept.orderly.begun.runs in
      omega (arith, kept.stands.time, (begun k d within).1);
}

-- the reply doesn't depend on the state that is left
same_reply : (p q : Plain) (t : Telling) → reply_of (told_in p t) ≡ reply_of (told_in q t)
same_reply p q (Ok told) = refl
same_reply p q (Err why) = refl

-- another number of commands
abbrev with_count : Plain → ℕ → Plain
with_count plain n = record plain { count = n }

recount : (read : ReadOp) (plain : Plain) (n : ℕ) →
    reply_of (effect_of (with_count plain n) (op_of read)) ≡ reply_of (effect_of plain (op_of read))
unfolding get_managed_resource get_routing_control_state list_managed_resources list_routing_controls list_safety_rules list_zonal_shifts
recount (read.ListRoutingControls panel) plain n = same_reply (with_count plain n) plain (list_routing_controls plain panel)
recount (read.GetRoutingControlState control) plain n = same_reply (with_count plain n) plain (get_routing_control_state plain control)
recount (read.ListSafetyRules panel) plain n = same_reply (with_count plain n) plain (list_safety_rules plain panel)
recount (read.GetManagedResource resource) plain n = same_reply (with_count plain n) plain (get_managed_resource plain resource)
recount read.ListManagedResources plain n = refl
recount (read.ListZonalShifts resource status) plain n = same_reply (with_count plain n) plain (list_zonal_shifts plain resource status)

-- a command that comes now finds the state but for its own count
arrived_now : (plain : Plain) (c : Command) → c.at_ms ≤ plain.time → arrived plain c ≡ with_count plain (plain.count + 1)
arrived_now plain c now =
    let same : max plain.time c.at_ms ≡ plain.time = omega arith in
    ap (λ t. let p : Plain = record plain { time = t; count = plain.count + 1 } in p) same

-- what is told now is the answer
pub answered_now : (read : ReadOp) (parts : Parts) (reply : Reply) → Answers read parts reply → AnswersNow read parts reply
answered_now read parts reply told plain c stands is no_token now =
    let below : is_ahead c.token plain.count ≡ false = le-ltb plain.count c.token (omega (arith, no_token)) in
    rw (below, is, arrived_now plain c now) (told plain stands ∙ sym (recount read plain (plain.count + 1)))

pub answered_ok : (result : Result Reply Memory) (read : ReadOp) (parts : Parts) → IfOk result (λ reply. Answers read parts reply) →
    IfOk result (λ reply. AnswersNow read parts reply)
answered_ok (Ok reply) read parts told = answered_now read parts reply told
answered_ok (Err memory) read parts told = tt
