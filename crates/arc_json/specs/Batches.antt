-- The members of operations on panels, controls and their states.
use Rattle.std.specs.Prelude.{◌==◌, Bool, List, [], ◌∷◌, codes, Ok}
use Rattle.arc_ids.specs.declared.named_id.RuleId.{RuleId}
use Rattle.arc_data.specs.declared.batch.Batch.{Batch}
use Rattle.arc_data.specs.declared.batch.Entry.{Entry}
use Rattle.arc_data.specs.declared.op.Op.{Op}
use Rattle.arc_data.specs.declared.op.Op.TheVariants.{CreateControlPanel, DeleteControlPanel, CreateRoutingControl, DeleteRoutingControl, ListRoutingControls, GetRoutingControlState, UpdateRoutingControlState, UpdateRoutingControlStates}
use Rattle.arc_members.specs.Lists.{list_in, set_in}
use Rattle.arc_members.specs.Members.{defaulted, optional, required}
use Rattle.arc_members.specs.Reading.{Reading, ◌>>=◌, object_in}
use Rattle.arc_members.specs.Values.{control_in, name_in, panel_in, rule_in, state_in}

unfoldable pub create_control_panel : Reading Op
create_control_panel d = do
  name ← required name_in (codes "ControlPanelName") d
  Ok (CreateControlPanel name)

unfoldable pub delete_control_panel : Reading Op
delete_control_panel d = do
  panel ← required panel_in (codes "ControlPanelArn") d
  Ok (DeleteControlPanel panel)

-- in panel 1 where no other is given
unfoldable pub create_routing_control : Reading Op
create_routing_control d = do
  name ← required name_in (codes "RoutingControlName") d
  panel ← defaulted (record { 0 = 1 }) panel_in (codes "ControlPanelArn") d
  Ok (CreateRoutingControl name panel)

unfoldable pub delete_routing_control : Reading Op
delete_routing_control d = do
  control ← required control_in (codes "RoutingControlArn") d
  Ok (DeleteRoutingControl control)

unfoldable pub list_routing_controls : Reading Op
list_routing_controls d = do
  panel ← optional panel_in (codes "ControlPanelArn") d
  Ok (ListRoutingControls panel)

unfoldable pub get_routing_control_state : Reading Op
get_routing_control_state d = do
  control ← required control_in (codes "RoutingControlArn") d
  Ok (GetRoutingControlState control)

-- ---- batches

-- the change of one control
unfoldable pub entry_members : Reading Entry
entry_members d = do
  control ← required control_in (codes "RoutingControlArn") d
  on ← required state_in (codes "RoutingControlState") d
  Ok (record { control = control; on = on })

unfoldable pub entry_in : Reading Entry
entry_in d = object_in d >>= entry_members

-- two changes of one control
abbrev pub same_control : Entry → Entry → Bool
same_control a b = a.control.0 == b.control.0

-- changes, each of another control
unfoldable pub entries_in : Reading (List Entry)
entries_in d = set_in same_control 1 16 entry_in d

-- the rules that a batch bypasses, any of them more than once
unfoldable pub rule_list_in : Reading (List RuleId)
rule_list_in d = list_in 0 16 rule_in d

unfoldable pub overrides_in : Reading (List RuleId)
overrides_in d = defaulted [] rule_list_in (codes "SafetyRulesToOverride") d

abbrev pub batch_of : List Entry → List RuleId → Batch
batch_of entries overrides = record { entries = entries; overrides = overrides }

unfoldable pub update_routing_control_state : Reading Op
update_routing_control_state d = do
  entry ← entry_members d
  overrides ← overrides_in d
  Ok (UpdateRoutingControlState (batch_of (entry ∷ []) overrides))

unfoldable pub update_routing_control_states : Reading Op
update_routing_control_states d = do
  entries ← required entries_in (codes "UpdateRoutingControlStateEntries") d
  overrides ← overrides_in d
  Ok (UpdateRoutingControlStates (batch_of entries overrides))
