use Rattle.std.proofs.Common.{refl}
use Rattle.std.proofs.lemmas.Result.{err_from_is_err_and}
use Rattle.arc_members.proofs.Steps.{stops}
use Rattle.arc_json.specs.Practice.{set_alarm_state}
use Rattle.arc_json.proofs.shift_ops.set_alarm_state.Goals as goal

pub returns-in_err-alarm-clause-gives : goal.returns-in_err-alarm-clause-gives
unfolding set_alarm_state
returns-in_err-alarm-clause-gives c =
    let p = err_from_is_err_and c.from_residual.result c.from_residual.ensures.1 in
    rw (p.1, p.2) (stops c.in_err-alarm.field-0.0 _ _ c.in_err-alarm.ensures.gives)

pub returns-in_err-red-clause-gives : goal.returns-in_err-red-clause-gives
unfolding set_alarm_state
returns-in_err-red-clause-gives c =
    let p = err_from_is_err_and c.from_residual-in_err-red.result c.from_residual-in_err-red.ensures.1 in
    rw (c.in_ok-alarm.ensures.gives, p.1, p.2) (stops c.in_err-red.field-0.0 _ _ c.in_err-red.ensures.gives)

pub returns-clause-gives : goal.returns-clause-gives
unfolding set_alarm_state
returns-clause-gives c = rw (c.in_ok-alarm.ensures.gives, c.in_ok-red.ensures.gives) refl
