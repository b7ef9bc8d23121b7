use Rattle.std.proofs.Common.{refl}
use Rattle.std.proofs.lemmas.Result.{err_from_is_err_and}
use Rattle.arc_members.proofs.Steps.{stops}
use Rattle.arc_json.specs.Practice.{register_managed_resource}
use Rattle.arc_json.proofs.shift_ops.register_managed_resource.Goals as goal

pub returns-in_err-zones-clause-gives : goal.returns-in_err-zones-clause-gives
unfolding register_managed_resource
returns-in_err-zones-clause-gives c =
    let p = err_from_is_err_and c.from_residual-in_err-zones.result c.from_residual-in_err-zones.ensures.1 in
    rw (c.in_ok-name.ensures.gives, p.1, p.2) (stops c.in_err-zones.field-0.0 _ _ c.in_err-zones.ensures.gives)

pub returns-clause-gives : goal.returns-clause-gives
unfolding register_managed_resource
returns-clause-gives c = rw (c.in_ok-name.ensures.gives, c.in_ok-zones.ensures.gives) refl
