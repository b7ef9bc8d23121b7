use Rattle.std.proofs.Common.{refl}
use Rattle.std.proofs.lemmas.Result.{err_from_is_err_and}
use Rattle.arc_members.proofs.Steps.{stops}
use Rattle.arc_json.specs.Batches.{update_routing_control_states}
use Rattle.arc_json.proofs.batch_ops.update_routing_control_states.Goals as goal

pub returns-in_err-entries-clause-gives : goal.returns-in_err-entries-clause-gives
unfolding update_routing_control_states
returns-in_err-entries-clause-gives c =
    let p = err_from_is_err_and c.from_residual.result c.from_residual.ensures.1 in
    rw (p.1, p.2) (stops c.in_err-entries.field-0.0 _ _ c.in_err-entries.ensures.gives)

pub returns-in_err-overrides-clause-gives : goal.returns-in_err-overrides-clause-gives
unfolding update_routing_control_states
returns-in_err-overrides-clause-gives c =
    let p = err_from_is_err_and c.from_residual-in_err-overrides.result c.from_residual-in_err-overrides.ensures.1 in
    rw (c.in_ok-entries.ensures.gives, p.1, p.2) (stops c.in_err-overrides.field-0.0 _ _ c.in_err-overrides.ensures.gives)

pub returns-clause-gives : goal.returns-clause-gives
unfolding update_routing_control_states
returns-clause-gives c = rw (c.in_ok-entries.ensures.gives, c.in_ok-overrides.ensures.gives) refl
