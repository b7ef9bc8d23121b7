use Rattle.std.proofs.Common.{refl}
use Rattle.std.proofs.lemmas.Result.{err_from_is_err_and}
use Rattle.arc_members.proofs.Steps.{stops}
use Rattle.arc_json.specs.Practice.{update_zonal_autoshift_configuration}
use Rattle.arc_json.proofs.shift_ops.update_zonal_autoshift_configuration.Goals as goal

pub returns-in_err-enabled-clause-gives : goal.returns-in_err-enabled-clause-gives
unfolding update_zonal_autoshift_configuration
returns-in_err-enabled-clause-gives c =
    let p = err_from_is_err_and c.from_residual-in_err-enabled.result c.from_residual-in_err-enabled.ensures.1 in
    rw (c.in_ok-resource.ensures.gives, p.1, p.2) (stops c.in_err-enabled.field-0.0 _ _ c.in_err-enabled.ensures.gives)

pub returns-clause-gives : goal.returns-clause-gives
unfolding update_zonal_autoshift_configuration
returns-clause-gives c = rw (c.in_ok-resource.ensures.gives, c.in_ok-enabled.ensures.gives) refl
