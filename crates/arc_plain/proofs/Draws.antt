-- How many identifiers an operation draws.
use Rattle.std.proofs.Common.{◌≡◌, ℕ, List, Bool, Option, Some, None, Ok, Err, refl, arith}
use Rattle.arc_ids.specs.declared.named_id.ControlId.{ControlId}
use Rattle.arc_ids.specs.declared.named_id.PanelId.{PanelId}
use Rattle.arc_ids.specs.declared.named_id.ResourceId.{ResourceId}
use Rattle.arc_ids.specs.declared.named_id.RuleId.{RuleId}
use Rattle.arc_ids.specs.declared.named_id.ShiftId.{ShiftId}
use Rattle.arc_data.specs.declared.batch.Batch.{Batch}
use Rattle.arc_data.specs.declared.op.Op.{Op}
use Rattle.arc_data.specs.declared.op.Op.TheVariants.{CreateControlPanel, DeleteControlPanel, CreateRoutingControl, DeleteRoutingControl, ListRoutingControls, GetRoutingControlState, UpdateRoutingControlState, UpdateRoutingControlStates, CreateSafetyRule, UpdateSafetyRule, DeleteSafetyRule, ListSafetyRules, RegisterManagedResource, GetManagedResource, ListManagedResources, StartZonalShift, UpdateZonalShift, CancelZonalShift, ListZonalShifts, CreatePracticeRunConfiguration, UpdatePracticeRunConfiguration, DeletePracticeRunConfiguration, StartPracticeRun, CancelPracticeRun, UpdateZonalAutoshiftConfiguration, StartAutoshift, EndAutoshift, SetAlarmState}
use Rattle.arc_data.specs.declared.practice.PracticeChange.{PracticeChange}
use Rattle.arc_data.specs.declared.practice.PracticeConfig.{PracticeConfig}
use Rattle.arc_data.specs.declared.practice.Run.{Run}
use Rattle.arc_data.specs.declared.rule.RuleSpec.{RuleSpec}
use Rattle.arc_data.specs.declared.shift.Shift.{Shift}
use Rattle.arc_plain.specs.State.{Effect, Plain}
use Rattle.arc_plain.specs.Laws.{Draws}
use Rattle.arc_plain.specs.Cluster.{effect_of, left_by}
use Rattle.arc_plain.specs.Reads.{Telling, get_managed_resource, get_routing_control_state, list_managed_resources, list_routing_controls, list_safety_rules, list_zonal_shifts, told_in}
use Rattle.arc_plain.specs.Panels.{add_control, add_panel, remove_control, remove_panel}
use Rattle.arc_plain.specs.Rules.{add_rule, remove_rule, update_rule}
use Rattle.arc_plain.specs.Batch.{commit_batch}
use Rattle.arc_plain.specs.Resources.{autoshift_ended, autoshift_set, autoshift_started, registered}
use Rattle.arc_plain.specs.Controls.{create_control_panel, create_routing_control, delete_control_panel, delete_routing_control, update_states}
use Rattle.arc_plain.specs.SafetyRules.{create_safety_rule, delete_safety_rule, update_safety_rule}
use Rattle.arc_plain.specs.ZonalShifts.{cancel_zonal_shift, first_over, first_run_over, forgets, register_managed_resource, start_zonal_shift, update_zonal_shift, with_room}
use Rattle.arc_plain.specs.PracticeRuns.{cancel_practice_run, create_practice_configuration, delete_practice_configuration, end_autoshift, set_alarm_state, start_autoshift, start_practice_run, update_autoshift_configuration, update_practice_configuration}

-- none is drawn
none_drawn : (plain : Plain) → Draws plain plain
none_drawn plain = record {
  panels = (omega arith, omega arith);
  controls = (omega arith, omega arith);
  rules = (omega arith, omega arith);
  resources = (omega arith, omega arith);
  shifts = (omega arith, omega arith);
}

-- the state that an effect leaves
abbrev DrawsBy : Plain → Effect → Type 0
DrawsBy plain effect = Draws plain (left_by plain effect)

told : (plain : Plain) (telling : Telling) → DrawsBy plain (told_in plain telling)
told plain (Ok answer) = none_drawn plain
told plain (Err refusal) = none_drawn plain

-- what is forgotten changes none of these numbers
pub record IsSameBesideShifts (plain after : Plain) : Type 0 where
  pub controls : after.controls ≡ plain.controls
  pub resources : after.resources ≡ plain.resources
  pub shifts_drawn : after.shifts_drawn ≡ plain.shifts_drawn

forgets_same : (plain : Plain) (shift : Option Shift) (run : Option Run) → IsSameBesideShifts plain (forgets plain shift run)
forgets_same plain None None = record { controls = refl; resources = refl; shifts_drawn = refl }
forgets_same plain (Some shift) None = record { controls = refl; resources = refl; shifts_drawn = refl }
forgets_same plain None (Some run) = record { controls = refl; resources = refl; shifts_drawn = refl }
forgets_same plain (Some shift) (Some run) = grind arith

pub room_same : (plain : Plain) → IsSameBesideShifts plain (with_room plain)
room_same plain = grind (arith, forgets_same plain (first_over plain) (first_run_over plain))

create_control_panel-draws : (plain : Plain) (name : List ℕ) → DrawsBy plain (create_control_panel plain name)
unfolding create_control_panel add_panel
create_control_panel-draws plain name = grind arith

delete_control_panel-draws : (plain : Plain) (panel : PanelId) → DrawsBy plain (delete_control_panel plain panel)
unfolding delete_control_panel remove_panel
delete_control_panel-draws plain panel = grind arith

create_routing_control-draws : (plain : Plain) (name : List ℕ) (panel : PanelId) → DrawsBy plain (create_routing_control plain name panel)
unfolding create_routing_control add_control
create_routing_control-draws plain name panel = grind arith

delete_routing_control-draws : (plain : Plain) (control : ControlId) → DrawsBy plain (delete_routing_control plain control)
unfolding delete_routing_control remove_control
delete_routing_control-draws plain control = grind arith

update_states-draws : (plain : Plain) (batch : Batch) → DrawsBy plain (update_states plain batch)
unfolding update_states commit_batch
update_states-draws plain batch = grind arith

create_safety_rule-draws : (plain : Plain) (spec : RuleSpec) → DrawsBy plain (create_safety_rule plain spec)
unfolding create_safety_rule add_rule
create_safety_rule-draws plain spec = grind arith

update_safety_rule-draws : (plain : Plain) (gating : Bool) (rule : RuleId) (name : List ℕ) (wait : ℕ) → DrawsBy plain (update_safety_rule plain gating rule name wait)
unfolding update_safety_rule update_rule
update_safety_rule-draws plain gating rule name wait = grind arith

delete_safety_rule-draws : (plain : Plain) (rule : RuleId) → DrawsBy plain (delete_safety_rule plain rule)
unfolding delete_safety_rule remove_rule
delete_safety_rule-draws plain rule = grind arith

register_managed_resource-draws : (plain : Plain) (name : List ℕ) (zones : List (List ℕ)) → DrawsBy plain (register_managed_resource plain name zones)
unfolding register_managed_resource registered
register_managed_resource-draws plain name zones = grind arith

start_zonal_shift-draws : (plain : Plain) (resource : ResourceId) (zone : List ℕ) (minutes : ℕ) (comment : List ℕ) → DrawsBy plain (start_zonal_shift plain resource zone minutes comment)
unfolding start_zonal_shift
start_zonal_shift-draws plain resource zone minutes comment = grind (arith, room_same plain)

update_zonal_shift-draws : (plain : Plain) (shift : ShiftId) (comment : Option (List ℕ)) (minutes : Option ℕ) → DrawsBy plain (update_zonal_shift plain shift comment minutes)
unfolding update_zonal_shift
update_zonal_shift-draws plain shift comment minutes = grind arith

cancel_zonal_shift-draws : (plain : Plain) (shift : ShiftId) → DrawsBy plain (cancel_zonal_shift plain shift)
unfolding cancel_zonal_shift
cancel_zonal_shift-draws plain shift = grind arith

create_practice_configuration-draws : (plain : Plain) (resource : ResourceId) (config : PracticeConfig) → DrawsBy plain (create_practice_configuration plain resource config)
unfolding create_practice_configuration
create_practice_configuration-draws plain resource config = grind arith

update_practice_configuration-draws : (plain : Plain) (resource : ResourceId) (change : PracticeChange) → DrawsBy plain (update_practice_configuration plain resource change)
unfolding update_practice_configuration
update_practice_configuration-draws plain resource change = grind arith

delete_practice_configuration-draws : (plain : Plain) (resource : ResourceId) → DrawsBy plain (delete_practice_configuration plain resource)
unfolding delete_practice_configuration
delete_practice_configuration-draws plain resource = grind arith

start_practice_run-draws : (plain : Plain) (resource : ResourceId) (zone : List ℕ) (comment : List ℕ) → DrawsBy plain (start_practice_run plain resource zone comment)
unfolding start_practice_run
start_practice_run-draws plain resource zone comment = grind (arith, room_same plain)

cancel_practice_run-draws : (plain : Plain) (shift : ShiftId) → DrawsBy plain (cancel_practice_run plain shift)
unfolding cancel_practice_run
cancel_practice_run-draws plain shift = grind arith

update_autoshift_configuration-draws : (plain : Plain) (resource : ResourceId) (enabled : Bool) → DrawsBy plain (update_autoshift_configuration plain resource enabled)
unfolding update_autoshift_configuration autoshift_set
update_autoshift_configuration-draws plain resource enabled = grind arith

start_autoshift-draws : (plain : Plain) (zone : List ℕ) → DrawsBy plain (start_autoshift plain zone)
unfolding start_autoshift autoshift_started
start_autoshift-draws plain zone = grind arith

end_autoshift-draws : (plain : Plain) (zone : List ℕ) → DrawsBy plain (end_autoshift plain zone)
unfolding end_autoshift autoshift_ended
end_autoshift-draws plain zone = grind arith

set_alarm_state-draws : (plain : Plain) (alarm : List ℕ) (red : Bool) → DrawsBy plain (set_alarm_state plain alarm red)
unfolding set_alarm_state
set_alarm_state-draws plain alarm red = grind arith

-- no operation draws more
pub effect_draws : (plain : Plain) (op : Op) → DrawsBy plain (effect_of plain op)
effect_draws plain (CreateControlPanel name) = create_control_panel-draws plain name
effect_draws plain (DeleteControlPanel panel) = delete_control_panel-draws plain panel
effect_draws plain (CreateRoutingControl name panel) = create_routing_control-draws plain name panel
effect_draws plain (DeleteRoutingControl control) = delete_routing_control-draws plain control
effect_draws plain (ListRoutingControls panel) = told plain (list_routing_controls plain panel)
effect_draws plain (GetRoutingControlState control) = told plain (get_routing_control_state plain control)
effect_draws plain (UpdateRoutingControlState batch) = update_states-draws plain batch
effect_draws plain (UpdateRoutingControlStates batch) = update_states-draws plain batch
effect_draws plain (CreateSafetyRule spec) = create_safety_rule-draws plain spec
effect_draws plain (UpdateSafetyRule gating rule name wait) = update_safety_rule-draws plain gating rule name wait
effect_draws plain (DeleteSafetyRule rule) = delete_safety_rule-draws plain rule
effect_draws plain (ListSafetyRules panel) = told plain (list_safety_rules plain panel)
effect_draws plain (RegisterManagedResource name zones) = register_managed_resource-draws plain name zones
effect_draws plain (GetManagedResource resource) = told plain (get_managed_resource plain resource)
effect_draws plain ListManagedResources = told plain (list_managed_resources plain)
effect_draws plain (StartZonalShift resource zone minutes comment) = start_zonal_shift-draws plain resource zone minutes comment
effect_draws plain (UpdateZonalShift shift comment minutes) = update_zonal_shift-draws plain shift comment minutes
effect_draws plain (CancelZonalShift shift) = cancel_zonal_shift-draws plain shift
effect_draws plain (ListZonalShifts resource status) = told plain (list_zonal_shifts plain resource status)
effect_draws plain (CreatePracticeRunConfiguration resource config) = create_practice_configuration-draws plain resource config
effect_draws plain (UpdatePracticeRunConfiguration resource change) = update_practice_configuration-draws plain resource change
effect_draws plain (DeletePracticeRunConfiguration resource) = delete_practice_configuration-draws plain resource
effect_draws plain (StartPracticeRun resource zone comment) = start_practice_run-draws plain resource zone comment
effect_draws plain (CancelPracticeRun shift) = cancel_practice_run-draws plain shift
effect_draws plain (UpdateZonalAutoshiftConfiguration resource enabled) = update_autoshift_configuration-draws plain resource enabled
effect_draws plain (StartAutoshift zone) = start_autoshift-draws plain zone
effect_draws plain (EndAutoshift zone) = end_autoshift-draws plain zone
effect_draws plain (SetAlarmState alarm red) = set_alarm_state-draws plain alarm red
