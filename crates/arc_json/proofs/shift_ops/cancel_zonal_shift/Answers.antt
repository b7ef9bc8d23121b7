use Rattle.std.proofs.Common.{refl}
use Rattle.std.proofs.lemmas.Result.{err_from_is_err_and}
use Rattle.arc_members.proofs.Steps.{stops}
use Rattle.arc_json.specs.Practice.{cancel_zonal_shift}
use Rattle.arc_json.proofs.shift_ops.cancel_zonal_shift.Goals as goal

pub returns-in_err-shift-clause-gives : goal.returns-in_err-shift-clause-gives
unfolding cancel_zonal_shift
returns-in_err-shift-clause-gives c =
    let p = err_from_is_err_and c.from_residual.result c.from_residual.ensures.1 in
    rw (p.1, p.2) (stops c.in_err-shift.field-0.0 _ _ c.in_err-shift.ensures.gives)

pub returns-clause-gives : goal.returns-clause-gives
unfolding cancel_zonal_shift
returns-clause-gives c = rw (c.in_ok-shift.ensures.gives) refl
