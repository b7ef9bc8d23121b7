use Rattle.std.proofs.Common.{refl}
use Rattle.std.proofs.lemmas.Result.{err_from_is_err_and}
use Rattle.arc_members.proofs.Steps.{stops}
use Rattle.arc_json.specs.Practice.{update_zonal_shift}
use Rattle.arc_json.proofs.shift_ops.update_zonal_shift.Goals as goal

pub returns-in_err-shift-clause-gives : goal.returns-in_err-shift-clause-gives
unfolding update_zonal_shift
returns-in_err-shift-clause-gives c =
    let p = err_from_is_err_and c.from_residual.result c.from_residual.ensures.1 in
    rw (p.1, p.2) (stops c.in_err-shift.field-0.0 _ _ c.in_err-shift.ensures.gives)

pub returns-in_err-comment-clause-gives : goal.returns-in_err-comment-clause-gives
unfolding update_zonal_shift
returns-in_err-comment-clause-gives c =
    let p = err_from_is_err_and c.from_residual-in_err-comment.result c.from_residual-in_err-comment.ensures.1 in
    rw (c.in_ok-shift.ensures.gives, p.1, p.2) (stops c.in_err-comment.field-0.0 _ _ c.in_err-comment.ensures.gives)

pub returns-in_err-expires_min-clause-gives : goal.returns-in_err-expires_min-clause-gives
unfolding update_zonal_shift
returns-in_err-expires_min-clause-gives c =
    let p = err_from_is_err_and c.from_residual-in_err-expires_min.result c.from_residual-in_err-expires_min.ensures.1 in
    rw (c.in_ok-shift.ensures.gives, c.in_ok-comment.ensures.gives, p.1, p.2) (stops c.in_err-expires_min.field-0.0 _ _ c.in_err-expires_min.ensures.gives)

pub returns-clause-gives : goal.returns-clause-gives
unfolding update_zonal_shift
returns-clause-gives c = rw (c.in_ok-shift.ensures.gives, c.in_ok-comment.ensures.gives, c.in_ok-expires_min.ensures.gives) refl
