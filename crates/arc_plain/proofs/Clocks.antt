-- No operation changes list time or the number of commands.
use Rattle.std.proofs.Common.{◌≡◌, ℕ, List, Bool, Option, Some, None, Ok, Err, refl, arith}
use Rattle.arc_ids.specs.declared.named_id.ControlId.{ControlId}
use Rattle.arc_ids.specs.declared.named_id.PanelId.{PanelId}
use Rattle.arc_ids.specs.declared.named_id.ResourceId.{ResourceId}
use Rattle.arc_ids.specs.declared.named_id.RuleId.{RuleId}
use Rattle.arc_ids.specs.declared.named_id.ShiftId.{ShiftId}
use Rattle.arc_data.specs.declared.batch.Batch.{Batch}
use Rattle.arc_data.specs.declared.op.Op.{Op}
use Rattle.arc_data.specs.declared.op.Op.TheVariants.{CreateControlPanel, DeleteControlPanel, CreateRoutingControl, DeleteRoutingControl, ListRoutingControls, GetRoutingControlState, UpdateRoutingControlState, UpdateRoutingControlStates, CreateSafetyRule, UpdateSafetyRule, DeleteSafetyRule, ListSafetyRules, RegisterManagedResource, GetManagedResource, ListManagedResources, StartZonalShift, UpdateZonalShift, CancelZonalShift, ListZonalShifts, CreatePracticeRunConfiguration, UpdatePracticeRunConfiguration, DeletePracticeRunConfiguration, StartPracticeRun, CancelPracticeRun, UpdateZonalAutoshiftConfiguration, StartAutoshift, EndAutoshift, SetAlarmState}
use Rattle.arc_data.specs.declared.practice.PracticeChange.{PracticeChange}
use Rattle.arc_data.specs.declared.practice.PracticeConfig.{PracticeConfig}
use Rattle.arc_data.specs.declared.practice.Run.{Run}
use Rattle.arc_data.specs.declared.rule.RuleSpec.{RuleSpec}
use Rattle.arc_data.specs.declared.shift.Shift.{Shift}
use Rattle.arc_plain.specs.State.{Effect, Plain}
use Rattle.arc_plain.specs.Cluster.{effect_of, left_by}
use Rattle.arc_plain.specs.Reads.{Telling, get_managed_resource, get_routing_control_state, list_managed_resources, list_routing_controls, list_safety_rules, list_zonal_shifts, told_in}
use Rattle.arc_plain.specs.Controls.{create_control_panel, create_routing_control, delete_control_panel, delete_routing_control, update_states}
use Rattle.arc_plain.specs.SafetyRules.{create_safety_rule, delete_safety_rule, update_safety_rule}
use Rattle.arc_plain.specs.ZonalShifts.{cancel_zonal_shift, first_over, first_run_over, forgets, register_managed_resource, start_zonal_shift, update_zonal_shift, with_room}
use Rattle.arc_plain.specs.PracticeRuns.{cancel_practice_run, create_practice_configuration, delete_practice_configuration, end_autoshift, set_alarm_state, start_autoshift, start_practice_run, update_autoshift_configuration, update_practice_configuration}

-- list time and the number of commands are those that were
pub record IsSteady (plain after : Plain) : Type 0 where
  pub time : after.time ≡ plain.time
  pub count : after.count ≡ plain.count

-- a state that an effect leaves
abbrev Steady : Plain → Effect → Type 0
Steady plain effect = IsSteady plain (left_by plain effect)

-- what is told changes nothing
told : (plain : Plain) (telling : Telling) → Steady plain (told_in plain telling)
told plain (Ok answer) = record { time = refl; count = refl }
told plain (Err refusal) = record { time = refl; count = refl }

-- what is forgotten changes neither
forgets_steady : (plain : Plain) (shift : Option Shift) (run : Option Run) → IsSteady plain (forgets plain shift run)
forgets_steady plain None None = record { time = refl; count = refl }
forgets_steady plain (Some shift) None = record { time = refl; count = refl }
forgets_steady plain None (Some run) = record { time = refl; count = refl }
forgets_steady plain (Some shift) (Some run) = grind arith

pub room_steady : (plain : Plain) → IsSteady plain (with_room plain)
room_steady plain = grind (arith, forgets_steady plain (first_over plain) (first_run_over plain))

create_control_panel-steady : (plain : Plain) (name : List ℕ) → Steady plain (create_control_panel plain name)
unfolding create_control_panel
create_control_panel-steady plain name = grind arith

delete_control_panel-steady : (plain : Plain) (panel : PanelId) → Steady plain (delete_control_panel plain panel)
unfolding delete_control_panel
delete_control_panel-steady plain panel = grind arith

create_routing_control-steady : (plain : Plain) (name : List ℕ) (panel : PanelId) → Steady plain (create_routing_control plain name panel)
unfolding create_routing_control
create_routing_control-steady plain name panel = grind arith

delete_routing_control-steady : (plain : Plain) (control : ControlId) → Steady plain (delete_routing_control plain control)
unfolding delete_routing_control
delete_routing_control-steady plain control = grind arith

update_states-steady : (plain : Plain) (batch : Batch) → Steady plain (update_states plain batch)
unfolding update_states
update_states-steady plain batch = grind arith

create_safety_rule-steady : (plain : Plain) (spec : RuleSpec) → Steady plain (create_safety_rule plain spec)
unfolding create_safety_rule
create_safety_rule-steady plain spec = grind arith

update_safety_rule-steady : (plain : Plain) (gating : Bool) (rule : RuleId) (name : List ℕ) (wait : ℕ) → Steady plain (update_safety_rule plain gating rule name wait)
unfolding update_safety_rule
update_safety_rule-steady plain gating rule name wait = grind arith

delete_safety_rule-steady : (plain : Plain) (rule : RuleId) → Steady plain (delete_safety_rule plain rule)
unfolding delete_safety_rule
delete_safety_rule-steady plain rule = grind arith

register_managed_resource-steady : (plain : Plain) (name : List ℕ) (zones : List (List ℕ)) → Steady plain (register_managed_resource plain name zones)
unfolding register_managed_resource
register_managed_resource-steady plain name zones = grind arith

start_zonal_shift-steady : (plain : Plain) (resource : ResourceId) (zone : List ℕ) (minutes : ℕ) (comment : List ℕ) → Steady plain (start_zonal_shift plain resource zone minutes comment)
unfolding start_zonal_shift
start_zonal_shift-steady plain resource zone minutes comment = grind (arith, room_steady plain)

update_zonal_shift-steady : (plain : Plain) (shift : ShiftId) (comment : Option (List ℕ)) (minutes : Option ℕ) → Steady plain (update_zonal_shift plain shift comment minutes)
unfolding update_zonal_shift
update_zonal_shift-steady plain shift comment minutes = grind arith

cancel_zonal_shift-steady : (plain : Plain) (shift : ShiftId) → Steady plain (cancel_zonal_shift plain shift)
unfolding cancel_zonal_shift
cancel_zonal_shift-steady plain shift = grind arith

create_practice_configuration-steady : (plain : Plain) (resource : ResourceId) (config : PracticeConfig) → Steady plain (create_practice_configuration plain resource config)
unfolding create_practice_configuration
create_practice_configuration-steady plain resource config = grind arith

update_practice_configuration-steady : (plain : Plain) (resource : ResourceId) (change : PracticeChange) → Steady plain (update_practice_configuration plain resource change)
unfolding update_practice_configuration
update_practice_configuration-steady plain resource change = grind arith

delete_practice_configuration-steady : (plain : Plain) (resource : ResourceId) → Steady plain (delete_practice_configuration plain resource)
unfolding delete_practice_configuration
delete_practice_configuration-steady plain resource = grind arith

start_practice_run-steady : (plain : Plain) (resource : ResourceId) (zone : List ℕ) (comment : List ℕ) → Steady plain (start_practice_run plain resource zone comment)
unfolding start_practice_run
start_practice_run-steady plain resource zone comment = grind (arith, room_steady plain)

cancel_practice_run-steady : (plain : Plain) (shift : ShiftId) → Steady plain (cancel_practice_run plain shift)
unfolding cancel_practice_run
cancel_practice_run-steady plain shift = grind arith

update_autoshift_configuration-steady : (plain : Plain) (resource : ResourceId) (enabled : Bool) → Steady plain (update_autoshift_configuration plain resource enabled)
unfolding update_autoshift_configuration
update_autoshift_configuration-steady plain resource enabled = grind arith

start_autoshift-steady : (plain : Plain) (zone : List ℕ) → Steady plain (start_autoshift plain zone)
unfolding start_autoshift
start_autoshift-steady plain zone = grind arith

end_autoshift-steady : (plain : Plain) (zone : List ℕ) → Steady plain (end_autoshift plain zone)
unfolding end_autoshift
end_autoshift-steady plain zone = grind arith

set_alarm_state-steady : (plain : Plain) (alarm : List ℕ) (red : Bool) → Steady plain (set_alarm_state plain alarm red)
unfolding set_alarm_state
set_alarm_state-steady plain alarm red = grind arith

-- no operation changes either
pub effect_steady : (plain : Plain) (op : Op) → Steady plain (effect_of plain op)
effect_steady plain (CreateControlPanel name) = create_control_panel-steady plain name
effect_steady plain (DeleteControlPanel panel) = delete_control_panel-steady plain panel
effect_steady plain (CreateRoutingControl name panel) = create_routing_control-steady plain name panel
effect_steady plain (DeleteRoutingControl control) = delete_routing_control-steady plain control
effect_steady plain (ListRoutingControls panel) = told plain (list_routing_controls plain panel)
effect_steady plain (GetRoutingControlState control) = told plain (get_routing_control_state plain control)
effect_steady plain (UpdateRoutingControlState batch) = update_states-steady plain batch
effect_steady plain (UpdateRoutingControlStates batch) = update_states-steady plain batch
effect_steady plain (CreateSafetyRule spec) = create_safety_rule-steady plain spec
effect_steady plain (UpdateSafetyRule gating rule name wait) = update_safety_rule-steady plain gating rule name wait
effect_steady plain (DeleteSafetyRule rule) = delete_safety_rule-steady plain rule
effect_steady plain (ListSafetyRules panel) = told plain (list_safety_rules plain panel)
effect_steady plain (RegisterManagedResource name zones) = register_managed_resource-steady plain name zones
effect_steady plain (GetManagedResource resource) = told plain (get_managed_resource plain resource)
effect_steady plain ListManagedResources = told plain (list_managed_resources plain)
effect_steady plain (StartZonalShift resource zone minutes comment) = start_zonal_shift-steady plain resource zone minutes comment
effect_steady plain (UpdateZonalShift shift comment minutes) = update_zonal_shift-steady plain shift comment minutes
effect_steady plain (CancelZonalShift shift) = cancel_zonal_shift-steady plain shift
effect_steady plain (ListZonalShifts resource status) = told plain (list_zonal_shifts plain resource status)
effect_steady plain (CreatePracticeRunConfiguration resource config) = create_practice_configuration-steady plain resource config
effect_steady plain (UpdatePracticeRunConfiguration resource change) = update_practice_configuration-steady plain resource change
effect_steady plain (DeletePracticeRunConfiguration resource) = delete_practice_configuration-steady plain resource
effect_steady plain (StartPracticeRun resource zone comment) = start_practice_run-steady plain resource zone comment
effect_steady plain (CancelPracticeRun shift) = cancel_practice_run-steady plain shift
effect_steady plain (UpdateZonalAutoshiftConfiguration resource enabled) = update_autoshift_configuration-steady plain resource enabled
effect_steady plain (StartAutoshift zone) = start_autoshift-steady plain zone
effect_steady plain (EndAutoshift zone) = end_autoshift-steady plain zone
effect_steady plain (SetAlarmState alarm red) = set_alarm_state-steady plain alarm red
