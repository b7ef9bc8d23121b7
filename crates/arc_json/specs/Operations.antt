-- The operations by their names, and the members of each.
use Rattle.std.specs.Prelude.{ℕ, List, [], ◌∷◌, codes, Option, Some, None, if◌then◌else◌}
use Rattle.std.specs.Str.{bytes_eq}
use Rattle.arc_data.specs.declared.op.Op.{Op}
use Rattle.arc_members.specs.Reading.{Reading}
use Rattle.arc_json.specs.declared.operation.Operation.{Operation}
use Rattle.arc_json.specs.declared.operation.Operation.TheVariants.{CreateControlPanel, DeleteControlPanel, CreateRoutingControl, DeleteRoutingControl, ListRoutingControls, GetRoutingControlState, UpdateRoutingControlState, UpdateRoutingControlStates, CreateSafetyRule, UpdateSafetyRule, DeleteSafetyRule, ListSafetyRules, RegisterManagedResource, GetManagedResource, ListManagedResources, StartZonalShift, UpdateZonalShift, CancelZonalShift, ListZonalShifts, CreatePracticeRunConfiguration, UpdatePracticeRunConfiguration, DeletePracticeRunConfiguration, StartPracticeRun, CancelPracticeRun, UpdateZonalAutoshiftConfiguration, StartAutoshift, EndAutoshift, SetAlarmState}
use Rattle.arc_json.specs.Batches.{create_control_panel, delete_control_panel, create_routing_control, delete_routing_control, list_routing_controls, get_routing_control_state, update_routing_control_state, update_routing_control_states}
use Rattle.arc_json.specs.Rules.{create_safety_rule, update_safety_rule, delete_safety_rule, list_safety_rules}
use Rattle.arc_json.specs.Practice.{register_managed_resource, get_managed_resource, list_managed_resources, start_zonal_shift, update_zonal_shift, cancel_zonal_shift, list_zonal_shifts, create_practice_run_configuration, update_practice_run_configuration, delete_practice_run_configuration, start_practice_run, cancel_practice_run, update_zonal_autoshift_configuration, start_autoshift, end_autoshift, set_alarm_state}

-- The table of operations: each name, and the operation beside it.
abbrev pub operations : List (List ℕ × Operation)
operations =
    (codes "CreateControlPanel", CreateControlPanel) ∷
    (codes "DeleteControlPanel", DeleteControlPanel) ∷
    (codes "CreateRoutingControl", CreateRoutingControl) ∷
    (codes "DeleteRoutingControl", DeleteRoutingControl) ∷
    (codes "ListRoutingControls", ListRoutingControls) ∷
    (codes "GetRoutingControlState", GetRoutingControlState) ∷
    (codes "UpdateRoutingControlState", UpdateRoutingControlState) ∷
    (codes "UpdateRoutingControlStates", UpdateRoutingControlStates) ∷
    (codes "CreateSafetyRule", CreateSafetyRule) ∷
    (codes "UpdateSafetyRule", UpdateSafetyRule) ∷
    (codes "DeleteSafetyRule", DeleteSafetyRule) ∷
    (codes "ListSafetyRules", ListSafetyRules) ∷
    (codes "RegisterManagedResource", RegisterManagedResource) ∷
    (codes "GetManagedResource", GetManagedResource) ∷
    (codes "ListManagedResources", ListManagedResources) ∷
    (codes "StartZonalShift", StartZonalShift) ∷
    (codes "UpdateZonalShift", UpdateZonalShift) ∷
    (codes "CancelZonalShift", CancelZonalShift) ∷
    (codes "ListZonalShifts", ListZonalShifts) ∷
    (codes "CreatePracticeRunConfiguration", CreatePracticeRunConfiguration) ∷
    (codes "UpdatePracticeRunConfiguration", UpdatePracticeRunConfiguration) ∷
    (codes "DeletePracticeRunConfiguration", DeletePracticeRunConfiguration) ∷
    (codes "StartPracticeRun", StartPracticeRun) ∷
    (codes "CancelPracticeRun", CancelPracticeRun) ∷
    (codes "UpdateZonalAutoshiftConfiguration", UpdateZonalAutoshiftConfiguration) ∷
    (codes "StartAutoshift", StartAutoshift) ∷
    (codes "EndAutoshift", EndAutoshift) ∷
    (codes "SetAlarmState", SetAlarmState) ∷
    []

-- the operation beside a name in such a table
abbrev pub beside : List (List ℕ × Operation) → List ℕ → Option Operation
beside [] name = None
beside (row ∷ others) name = if bytes_eq row.0 name then Some row.1 else beside others name

-- the operation of this name
unfoldable pub operation_of : List ℕ → Option Operation
operation_of name = beside operations name

-- what the members of an object ask of an operation
unfoldable pub members_of : Operation → Reading Op
members_of CreateControlPanel = create_control_panel
members_of DeleteControlPanel = delete_control_panel
members_of CreateRoutingControl = create_routing_control
members_of DeleteRoutingControl = delete_routing_control
members_of ListRoutingControls = list_routing_controls
members_of GetRoutingControlState = get_routing_control_state
members_of UpdateRoutingControlState = update_routing_control_state
members_of UpdateRoutingControlStates = update_routing_control_states
members_of CreateSafetyRule = create_safety_rule
members_of UpdateSafetyRule = update_safety_rule
members_of DeleteSafetyRule = delete_safety_rule
members_of ListSafetyRules = list_safety_rules
members_of RegisterManagedResource = register_managed_resource
members_of GetManagedResource = get_managed_resource
members_of ListManagedResources = list_managed_resources
members_of StartZonalShift = start_zonal_shift
members_of UpdateZonalShift = update_zonal_shift
members_of CancelZonalShift = cancel_zonal_shift
members_of ListZonalShifts = list_zonal_shifts
members_of CreatePracticeRunConfiguration = create_practice_run_configuration
members_of UpdatePracticeRunConfiguration = update_practice_run_configuration
members_of DeletePracticeRunConfiguration = delete_practice_run_configuration
members_of StartPracticeRun = start_practice_run
members_of CancelPracticeRun = cancel_practice_run
members_of UpdateZonalAutoshiftConfiguration = update_zonal_autoshift_configuration
members_of StartAutoshift = start_autoshift
members_of EndAutoshift = end_autoshift
members_of SetAlarmState = set_alarm_state
