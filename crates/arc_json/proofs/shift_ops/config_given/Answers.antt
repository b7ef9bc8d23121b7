use Rattle.std.proofs.Common.{refl}
use Rattle.std.proofs.lemmas.Result.{err_from_is_err_and}
use Rattle.arc_members.proofs.Steps.{stops}
use Rattle.arc_json.specs.Practice.{config_given}
use Rattle.arc_json.proofs.shift_ops.config_given.Goals as goal

pub returns-in_err-blocked_dates-clause-gives : goal.returns-in_err-blocked_dates-clause-gives
unfolding config_given
returns-in_err-blocked_dates-clause-gives c =
    let p = err_from_is_err_and c.from_residual.result c.from_residual.ensures.1 in
    rw (p.1, p.2) (stops c.in_err-blocked_dates.field-0.0 _ _ c.in_err-blocked_dates.ensures.gives)

pub returns-in_err-blocked_windows-clause-gives : goal.returns-in_err-blocked_windows-clause-gives
unfolding config_given
returns-in_err-blocked_windows-clause-gives c =
    let p = err_from_is_err_and c.from_residual-in_err-blocked_windows.result c.from_residual-in_err-blocked_windows.ensures.1 in
    rw (c.in_ok-blocked_dates.ensures.gives, p.1, p.2) (stops c.in_err-blocked_windows.field-0.0 _ _ c.in_err-blocked_windows.ensures.gives)

pub returns-in_err-blocking_alarms-clause-gives : goal.returns-in_err-blocking_alarms-clause-gives
unfolding config_given
returns-in_err-blocking_alarms-clause-gives c =
    let p = err_from_is_err_and c.from_residual-in_err-blocking_alarms.result c.from_residual-in_err-blocking_alarms.ensures.1 in
    rw (c.in_ok-blocked_dates.ensures.gives, c.in_ok-blocked_windows.ensures.gives, p.1, p.2) (stops c.in_err-blocking_alarms.field-0.0 _ _ c.in_err-blocking_alarms.ensures.gives)

pub returns-in_err-outcome_alarms-clause-gives : goal.returns-in_err-outcome_alarms-clause-gives
unfolding config_given
returns-in_err-outcome_alarms-clause-gives c =
    let p = err_from_is_err_and c.from_residual-in_err-outcome_alarms.result c.from_residual-in_err-outcome_alarms.ensures.1 in
    rw (c.in_ok-blocked_dates.ensures.gives, c.in_ok-blocked_windows.ensures.gives, c.in_ok-blocking_alarms.ensures.gives, p.1, p.2) (stops c.in_err-outcome_alarms.field-0.0 _ _ c.in_err-outcome_alarms.ensures.gives)

pub returns-clause-gives : goal.returns-clause-gives
unfolding config_given
returns-clause-gives c = rw (c.in_ok-blocked_dates.ensures.gives, c.in_ok-blocked_windows.ensures.gives, c.in_ok-blocking_alarms.ensures.gives, c.in_ok-outcome_alarms.ensures.gives) refl
