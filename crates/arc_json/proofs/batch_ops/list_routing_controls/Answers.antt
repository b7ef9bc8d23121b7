use Rattle.std.proofs.Common.{refl}
use Rattle.std.proofs.lemmas.Result.{err_from_is_err_and}
use Rattle.arc_members.proofs.Steps.{stops}
use Rattle.arc_json.specs.Batches.{list_routing_controls}
use Rattle.arc_json.proofs.batch_ops.list_routing_controls.Goals as goal

pub returns-in_err-panel-clause-gives : goal.returns-in_err-panel-clause-gives
unfolding list_routing_controls
returns-in_err-panel-clause-gives c =
    let p = err_from_is_err_and c.from_residual.result c.from_residual.ensures.1 in
    rw (p.1, p.2) (stops c.in_err-panel.field-0.0 _ _ c.in_err-panel.ensures.gives)

pub returns-clause-gives : goal.returns-clause-gives
unfolding list_routing_controls
returns-clause-gives c = rw (c.in_ok-panel.ensures.gives) refl
