-- What a command answers and leaves, and what a list of commands makes.
use Rattle.std.specs.Prelude.{ℕ, ◌+◌, max, List, fold, nat_lt, Bool, Ok, Err, if◌then◌else◌}
use Rattle.arc_data.specs.declared.command.Command.{Command}
use Rattle.arc_data.specs.declared.op.Op.{Op}
use Rattle.arc_data.specs.declared.op.Op.TheVariants.{CreateControlPanel, DeleteControlPanel, CreateRoutingControl, DeleteRoutingControl, ListRoutingControls, GetRoutingControlState, UpdateRoutingControlState, UpdateRoutingControlStates, CreateSafetyRule, UpdateSafetyRule, DeleteSafetyRule, ListSafetyRules, RegisterManagedResource, GetManagedResource, ListManagedResources, StartZonalShift, UpdateZonalShift, CancelZonalShift, ListZonalShifts, CreatePracticeRunConfiguration, UpdatePracticeRunConfiguration, DeletePracticeRunConfiguration, StartPracticeRun, CancelPracticeRun, UpdateZonalAutoshiftConfiguration, StartAutoshift, EndAutoshift, SetAlarmState}
use Rattle.arc_data.specs.declared.reply.Refusal.TheVariants.{TokenAhead}
use Rattle.arc_data.specs.declared.reply.Reply.{Reply}
use Rattle.arc_data.specs.declared.reply.Reply.TheVariants.{Done, Refused}
use Rattle.arc_plain.specs.State.{Effect, Plain, fresh}
use Rattle.arc_plain.specs.Controls.{create_control_panel, create_routing_control, delete_control_panel, delete_routing_control, update_states}
use Rattle.arc_plain.specs.SafetyRules.{create_safety_rule, delete_safety_rule, update_safety_rule}
use Rattle.arc_plain.specs.ZonalShifts.{cancel_zonal_shift, register_managed_resource, start_zonal_shift, update_zonal_shift}
use Rattle.arc_plain.specs.PracticeRuns.{cancel_practice_run, create_practice_configuration, delete_practice_configuration, end_autoshift, set_alarm_state, start_autoshift, start_practice_run, update_autoshift_configuration, update_practice_configuration}
use Rattle.arc_plain.specs.Reads.{get_managed_resource, get_routing_control_state, list_managed_resources, list_routing_controls, list_safety_rules, list_zonal_shifts, told_in}

-- what each operation does
abbrev pub effect_of : Plain → Op → Effect
effect_of plain (CreateControlPanel name) = create_control_panel plain name
effect_of plain (DeleteControlPanel panel) = delete_control_panel plain panel
effect_of plain (CreateRoutingControl name panel) = create_routing_control plain name panel
effect_of plain (DeleteRoutingControl control) = delete_routing_control plain control
effect_of plain (ListRoutingControls panel) = told_in plain (list_routing_controls plain panel)
effect_of plain (GetRoutingControlState control) = told_in plain (get_routing_control_state plain control)
effect_of plain (UpdateRoutingControlState batch) = update_states plain batch
effect_of plain (UpdateRoutingControlStates batch) = update_states plain batch
effect_of plain (CreateSafetyRule spec) = create_safety_rule plain spec
effect_of plain (UpdateSafetyRule gating rule name wait) = update_safety_rule plain gating rule name wait
effect_of plain (DeleteSafetyRule rule) = delete_safety_rule plain rule
effect_of plain (ListSafetyRules panel) = told_in plain (list_safety_rules plain panel)
effect_of plain (RegisterManagedResource name zones) = register_managed_resource plain name zones
effect_of plain (GetManagedResource resource) = told_in plain (get_managed_resource plain resource)
effect_of plain ListManagedResources = told_in plain (list_managed_resources plain)
effect_of plain (StartZonalShift resource zone minutes comment) = start_zonal_shift plain resource zone minutes comment
effect_of plain (UpdateZonalShift shift comment minutes) = update_zonal_shift plain shift comment minutes
effect_of plain (CancelZonalShift shift) = cancel_zonal_shift plain shift
effect_of plain (ListZonalShifts resource status) = told_in plain (list_zonal_shifts plain resource status)
effect_of plain (CreatePracticeRunConfiguration resource config) = create_practice_configuration plain resource config
effect_of plain (UpdatePracticeRunConfiguration resource change) = update_practice_configuration plain resource change
effect_of plain (DeletePracticeRunConfiguration resource) = delete_practice_configuration plain resource
effect_of plain (StartPracticeRun resource zone comment) = start_practice_run plain resource zone comment
effect_of plain (CancelPracticeRun shift) = cancel_practice_run plain shift
effect_of plain (UpdateZonalAutoshiftConfiguration resource enabled) = update_autoshift_configuration plain resource enabled
effect_of plain (StartAutoshift zone) = start_autoshift plain zone
effect_of plain (EndAutoshift zone) = end_autoshift plain zone
effect_of plain (SetAlarmState alarm red) = set_alarm_state plain alarm red

-- A reply at place k carries the token k + 1: so many commands the caller then knows to be in the list.
abbrev pub token_at : ℕ → ℕ
token_at place = place + 1

-- a token is ahead of a place where its caller knows of commands that aren't there yet
abbrev pub is_ahead : ℕ → ℕ → Bool
is_ahead token place = nat_lt place token

-- the state as a command finds it: list time doesn't fall, and the command counts
abbrev pub arrived : Plain → Command → Plain
arrived plain c = record plain { time = max plain.time c.at_ms; count = plain.count + 1 }

-- A token ahead is told before anything else is looked at.
abbrev pub effect_at : Plain → Command → Effect
effect_at plain c =
    if is_ahead c.token plain.count then Err (TokenAhead c.token plain.count) else effect_of (arrived plain c) c.op

-- the reply that an effect gives
abbrev pub reply_of : Effect → Reply
reply_of (Ok done) = Done done.0
reply_of (Err refusal) = Refused refusal

-- the state that an effect leaves: a refused command changes nothing further
abbrev pub left_by : Plain → Effect → Plain
left_by found (Ok done) = done.1
left_by found (Err refusal) = found

-- what a command answers in a state
abbrev pub answer : Plain → Command → Reply
answer plain c = reply_of (effect_at plain c)

-- the state after a command
abbrev pub next : Plain → Command → Plain
next plain c = left_by (arrived plain c) (effect_at plain c)

-- the state after a list of commands, from the start
abbrev pub fold_of : List Command → Plain
fold_of commands = fold next fresh commands
