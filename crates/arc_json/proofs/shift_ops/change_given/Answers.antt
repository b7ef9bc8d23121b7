use Rattle.std.proofs.Common.{refl}
use Rattle.std.proofs.lemmas.Result.{err_from_is_err_and}
use Rattle.arc_members.proofs.Steps.{stops}
use Rattle.arc_json.specs.Practice.{change_given}
use Rattle.arc_json.proofs.shift_ops.change_given.Goals as goal

pub returns-in_err-outcome_alarms-clause-gives : goal.returns-in_err-outcome_alarms-clause-gives
unfolding change_given
returns-in_err-outcome_alarms-clause-gives c =
    let p = err_from_is_err_and c.from_residual-in_err-outcome_alarms.result c.from_residual-in_err-outcome_alarms.ensures.1 in
    rw (c.in_ok-blocked_dates.ensures.gives, c.in_ok-blocked_windows.ensures.gives, c.in_ok-blocking_alarms.ensures.gives, p.1, p.2) (stops c.in_err-outcome_alarms.field-0.0 _ _ c.in_err-outcome_alarms.ensures.gives)

pub returns-clause-gives : goal.returns-clause-gives
unfolding change_given
returns-clause-gives c = rw (c.in_ok-blocked_dates.ensures.gives, c.in_ok-blocked_windows.ensures.gives, c.in_ok-blocking_alarms.ensures.gives, c.in_ok-outcome_alarms.ensures.gives) refl
