use Rattle.std.proofs.Common.{refl}
use Rattle.std.proofs.lemmas.Result.{err_from_is_err_and}
use Rattle.arc_members.proofs.Steps.{stops}
use Rattle.arc_json.specs.Batches.{create_control_panel}
use Rattle.arc_json.proofs.batch_ops.create_control_panel.Goals as goal

pub returns-in_err-name-clause-gives : goal.returns-in_err-name-clause-gives
unfolding create_control_panel
returns-in_err-name-clause-gives c =
    let p = err_from_is_err_and c.from_residual.result c.from_residual.ensures.1 in
    rw (p.1, p.2) (stops c.in_err-name.field-0.0 _ _ c.in_err-name.ensures.gives)

pub returns-clause-gives : goal.returns-clause-gives
unfolding create_control_panel
returns-clause-gives c = rw (c.in_ok-name.ensures.gives) refl
