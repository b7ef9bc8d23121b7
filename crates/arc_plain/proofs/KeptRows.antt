-- What each operation leaves of panels and controls.
use Rattle.std.proofs.Common.{ℕ, List, Bool, Option, Ok, Err, arith, inl, inr}
use Rattle.std.proofs.lemmas.Bool.{cases_Bool}
use Rattle.arc_data.specs.declared.command.Command.{Command}
use Rattle.arc_ids.specs.declared.named_id.ControlId.{ControlId}
use Rattle.arc_ids.specs.declared.named_id.PanelId.{PanelId}
use Rattle.arc_ids.specs.declared.named_id.ResourceId.{ResourceId}
use Rattle.arc_ids.specs.declared.named_id.RuleId.{RuleId}
use Rattle.arc_ids.specs.declared.named_id.ShiftId.{ShiftId}
use Rattle.arc_data.specs.declared.batch.Batch.{Batch}
use Rattle.arc_data.specs.declared.op.Op.{Op}
use Rattle.arc_data.specs.declared.op.Op.TheVariants.{CreateControlPanel, DeleteControlPanel, CreateRoutingControl, DeleteRoutingControl, ListRoutingControls, GetRoutingControlState, UpdateRoutingControlState, UpdateRoutingControlStates, CreateSafetyRule, UpdateSafetyRule, DeleteSafetyRule, ListSafetyRules, RegisterManagedResource, GetManagedResource, ListManagedResources, StartZonalShift, UpdateZonalShift, CancelZonalShift, ListZonalShifts, CreatePracticeRunConfiguration, UpdatePracticeRunConfiguration, DeletePracticeRunConfiguration, StartPracticeRun, CancelPracticeRun, UpdateZonalAutoshiftConfiguration, StartAutoshift, EndAutoshift, SetAlarmState}
use Rattle.arc_data.specs.declared.practice.PracticeChange.{PracticeChange}
use Rattle.arc_data.specs.declared.practice.PracticeConfig.{PracticeConfig}
use Rattle.arc_data.specs.declared.rule.RuleSpec.{RuleSpec}
use Rattle.arc_plain.specs.State.{Effect, Plain, fresh}
use Rattle.arc_plain.specs.Cluster.{arrived, effect_of, fold_of, is_ahead, left_by, next}
use Rattle.arc_plain.proofs.Steps.{fold_keeps}
use Rattle.arc_plain.specs.Reads.{Telling, get_managed_resource, get_routing_control_state, list_managed_resources, list_routing_controls, list_safety_rules, list_zonal_shifts, told_in}
use Rattle.arc_plain.specs.Panels.{add_control, add_panel, remove_control, remove_panel}
use Rattle.arc_plain.specs.Rules.{add_rule, remove_rule, update_rule}
use Rattle.arc_plain.specs.Batch.{commit_batch}
use Rattle.arc_plain.specs.Resources.{autoshift_ended, autoshift_set, autoshift_started, registered}
use Rattle.arc_plain.specs.Controls.{create_control_panel, create_routing_control, delete_control_panel, delete_routing_control, update_states}
use Rattle.arc_plain.specs.SafetyRules.{create_safety_rule, delete_safety_rule, update_safety_rule}
use Rattle.arc_plain.specs.ZonalShifts.{cancel_zonal_shift, register_managed_resource, start_zonal_shift, update_zonal_shift}
use Rattle.arc_plain.specs.PracticeRuns.{cancel_practice_run, create_practice_configuration, delete_practice_configuration, end_autoshift, set_alarm_state, start_autoshift, start_practice_run, update_autoshift_configuration, update_practice_configuration}
use Rattle.arc_plain.specs.Laws.{AreKeptPanels}
use Rattle.arc_plain.proofs.Draws.{room_same}
use Rattle.arc_plain.proofs.KeptPanels.{kept_at_first, kept_with_control, kept_with_panel, kept_with_states, kept_without_control, kept_without_panel}

-- what holds of panels and controls holds of those that an effect leaves
abbrev KeepsBy : Plain → Effect → Type 0
KeepsBy plain effect = AreKeptPanels plain.controls.panels → AreKeptPanels (left_by plain effect).controls.panels

told : (plain : Plain) (telling : Telling) → KeepsBy plain (told_in plain telling)
told plain (Ok answer) kept = kept
told plain (Err refusal) kept = kept

create_control_panel-keeps : (plain : Plain) (name : List ℕ) → KeepsBy plain (create_control_panel plain name)
unfolding create_control_panel add_panel
create_control_panel-keeps plain name kept = grind (arith, kept, kept_with_panel plain.controls.panels name kept)

delete_control_panel-keeps : (plain : Plain) (panel : PanelId) → KeepsBy plain (delete_control_panel plain panel)
unfolding delete_control_panel remove_panel
delete_control_panel-keeps plain panel kept = grind (arith, kept, kept_without_panel plain.controls.panels panel kept)

create_routing_control-keeps : (plain : Plain) (name : List ℕ) (panel : PanelId) → KeepsBy plain (create_routing_control plain name panel)
unfolding create_routing_control add_control
create_routing_control-keeps plain name panel kept = grind (arith, kept, kept_with_control plain.controls.panels name panel kept)

delete_routing_control-keeps : (plain : Plain) (control : ControlId) → KeepsBy plain (delete_routing_control plain control)
unfolding delete_routing_control remove_control
delete_routing_control-keeps plain control kept = grind (arith, kept, kept_without_control plain.controls.panels control kept)

update_states-keeps : (plain : Plain) (batch : Batch) → KeepsBy plain (update_states plain batch)
unfolding update_states commit_batch
update_states-keeps plain batch kept = grind (arith, kept, kept_with_states plain.controls.panels batch.entries kept)

create_safety_rule-keeps : (plain : Plain) (spec : RuleSpec) → KeepsBy plain (create_safety_rule plain spec)
unfolding create_safety_rule add_rule
create_safety_rule-keeps plain spec kept = grind (arith, kept)

update_safety_rule-keeps : (plain : Plain) (gating : Bool) (rule : RuleId) (name : List ℕ) (wait : ℕ) → KeepsBy plain (update_safety_rule plain gating rule name wait)
unfolding update_safety_rule update_rule
update_safety_rule-keeps plain gating rule name wait kept = grind (arith, kept)

delete_safety_rule-keeps : (plain : Plain) (rule : RuleId) → KeepsBy plain (delete_safety_rule plain rule)
unfolding delete_safety_rule remove_rule
delete_safety_rule-keeps plain rule kept = grind (arith, kept)

register_managed_resource-keeps : (plain : Plain) (name : List ℕ) (zones : List (List ℕ)) → KeepsBy plain (register_managed_resource plain name zones)
unfolding register_managed_resource registered
register_managed_resource-keeps plain name zones kept = grind (arith, kept)

start_zonal_shift-keeps : (plain : Plain) (resource : ResourceId) (zone : List ℕ) (minutes : ℕ) (comment : List ℕ) → KeepsBy plain (start_zonal_shift plain resource zone minutes comment)
unfolding start_zonal_shift
start_zonal_shift-keeps plain resource zone minutes comment kept = grind (arith, kept, room_same plain)

update_zonal_shift-keeps : (plain : Plain) (shift : ShiftId) (comment : Option (List ℕ)) (minutes : Option ℕ) → KeepsBy plain (update_zonal_shift plain shift comment minutes)
unfolding update_zonal_shift
update_zonal_shift-keeps plain shift comment minutes kept = grind (arith, kept)

cancel_zonal_shift-keeps : (plain : Plain) (shift : ShiftId) → KeepsBy plain (cancel_zonal_shift plain shift)
unfolding cancel_zonal_shift
cancel_zonal_shift-keeps plain shift kept = grind (arith, kept)

create_practice_configuration-keeps : (plain : Plain) (resource : ResourceId) (config : PracticeConfig) → KeepsBy plain (create_practice_configuration plain resource config)
unfolding create_practice_configuration
create_practice_configuration-keeps plain resource config kept = grind (arith, kept)

update_practice_configuration-keeps : (plain : Plain) (resource : ResourceId) (change : PracticeChange) → KeepsBy plain (update_practice_configuration plain resource change)
unfolding update_practice_configuration
update_practice_configuration-keeps plain resource change kept = grind (arith, kept)

delete_practice_configuration-keeps : (plain : Plain) (resource : ResourceId) → KeepsBy plain (delete_practice_configuration plain resource)
unfolding delete_practice_configuration
delete_practice_configuration-keeps plain resource kept = grind (arith, kept)

start_practice_run-keeps : (plain : Plain) (resource : ResourceId) (zone : List ℕ) (comment : List ℕ) → KeepsBy plain (start_practice_run plain resource zone comment)
unfolding start_practice_run
start_practice_run-keeps plain resource zone comment kept = grind (arith, kept, room_same plain)

cancel_practice_run-keeps : (plain : Plain) (shift : ShiftId) → KeepsBy plain (cancel_practice_run plain shift)
unfolding cancel_practice_run
cancel_practice_run-keeps plain shift kept = grind (arith, kept)

update_autoshift_configuration-keeps : (plain : Plain) (resource : ResourceId) (enabled : Bool) → KeepsBy plain (update_autoshift_configuration plain resource enabled)
unfolding update_autoshift_configuration autoshift_set
update_autoshift_configuration-keeps plain resource enabled kept = grind (arith, kept)

start_autoshift-keeps : (plain : Plain) (zone : List ℕ) → KeepsBy plain (start_autoshift plain zone)
unfolding start_autoshift autoshift_started
start_autoshift-keeps plain zone kept = grind (arith, kept)

end_autoshift-keeps : (plain : Plain) (zone : List ℕ) → KeepsBy plain (end_autoshift plain zone)
unfolding end_autoshift autoshift_ended
end_autoshift-keeps plain zone kept = grind (arith, kept)

set_alarm_state-keeps : (plain : Plain) (alarm : List ℕ) (red : Bool) → KeepsBy plain (set_alarm_state plain alarm red)
unfolding set_alarm_state
set_alarm_state-keeps plain alarm red kept = grind (arith, kept)

-- every operation keeps them
pub effect_keeps : (plain : Plain) (op : Op) → KeepsBy plain (effect_of plain op)
effect_keeps plain (CreateControlPanel name) kept = create_control_panel-keeps plain name kept
effect_keeps plain (DeleteControlPanel panel) kept = delete_control_panel-keeps plain panel kept
effect_keeps plain (CreateRoutingControl name panel) kept = create_routing_control-keeps plain name panel kept
effect_keeps plain (DeleteRoutingControl control) kept = delete_routing_control-keeps plain control kept
effect_keeps plain (ListRoutingControls panel) kept = told plain (list_routing_controls plain panel) kept
effect_keeps plain (GetRoutingControlState control) kept = told plain (get_routing_control_state plain control) kept
effect_keeps plain (UpdateRoutingControlState batch) kept = update_states-keeps plain batch kept
effect_keeps plain (UpdateRoutingControlStates batch) kept = update_states-keeps plain batch kept
effect_keeps plain (CreateSafetyRule spec) kept = create_safety_rule-keeps plain spec kept
effect_keeps plain (UpdateSafetyRule gating rule name wait) kept = update_safety_rule-keeps plain gating rule name wait kept
effect_keeps plain (DeleteSafetyRule rule) kept = delete_safety_rule-keeps plain rule kept
effect_keeps plain (ListSafetyRules panel) kept = told plain (list_safety_rules plain panel) kept
effect_keeps plain (RegisterManagedResource name zones) kept = register_managed_resource-keeps plain name zones kept
effect_keeps plain (GetManagedResource resource) kept = told plain (get_managed_resource plain resource) kept
effect_keeps plain ListManagedResources kept = told plain (list_managed_resources plain) kept
effect_keeps plain (StartZonalShift resource zone minutes comment) kept = start_zonal_shift-keeps plain resource zone minutes comment kept
effect_keeps plain (UpdateZonalShift shift comment minutes) kept = update_zonal_shift-keeps plain shift comment minutes kept
effect_keeps plain (CancelZonalShift shift) kept = cancel_zonal_shift-keeps plain shift kept
effect_keeps plain (ListZonalShifts resource status) kept = told plain (list_zonal_shifts plain resource status) kept
effect_keeps plain (CreatePracticeRunConfiguration resource config) kept = create_practice_configuration-keeps plain resource config kept
effect_keeps plain (UpdatePracticeRunConfiguration resource change) kept = update_practice_configuration-keeps plain resource change kept
effect_keeps plain (DeletePracticeRunConfiguration resource) kept = delete_practice_configuration-keeps plain resource kept
effect_keeps plain (StartPracticeRun resource zone comment) kept = start_practice_run-keeps plain resource zone comment kept
effect_keeps plain (CancelPracticeRun shift) kept = cancel_practice_run-keeps plain shift kept
effect_keeps plain (UpdateZonalAutoshiftConfiguration resource enabled) kept = update_autoshift_configuration-keeps plain resource enabled kept
effect_keeps plain (StartAutoshift zone) kept = start_autoshift-keeps plain zone kept
effect_keeps plain (EndAutoshift zone) kept = end_autoshift-keeps plain zone kept
effect_keeps plain (SetAlarmState alarm red) kept = set_alarm_state-keeps plain alarm red kept

-- after a command
keeps_next : (plain : Plain) (c : Command) → AreKeptPanels plain.controls.panels → AreKeptPanels (next plain c).controls.panels
keeps_next plain c kept =
    elim (cases_Bool (is_ahead c.token plain.count)) [
      | inl ahead ↦ rw ahead kept
      | inr not_ahead ↦ rw not_ahead (effect_keeps (arrived plain c) c.op kept)
    ]

-- after every list of commands
pub kept_fold : (commands : List Command) → AreKeptPanels (fold_of commands).controls.panels
kept_fold commands = fold_keeps (λ p. AreKeptPanels p.controls.panels) keeps_next fresh commands kept_at_first
