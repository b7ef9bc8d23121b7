-- What is known of every value of the types: numbers are within their types, and texts are UTF-8.
use Rattle.std.specs.Prelude.{ℕ, ◌<◌, ◌≤◌, ◌^◌, List, length, IfSome, ⊤}
use Rattle.std.specs.List.{AllByRecursion}
use Rattle.std.specs.Str.{IsUtf8}
use Rattle.arc_ids.specs.declared.command_id.CommandId.{CommandId}
use Rattle.arc_ids.specs.declared.named_id.ControlId.{ControlId}
use Rattle.arc_ids.specs.declared.named_id.PanelId.{PanelId}
use Rattle.arc_ids.specs.declared.named_id.ResourceId.{ResourceId}
use Rattle.arc_ids.specs.declared.named_id.RuleId.{RuleId}
use Rattle.arc_ids.specs.declared.named_id.ShiftId.{ShiftId}
use Rattle.arc_data.specs.declared.command.Command.{Command}
use Rattle.arc_data.specs.declared.batch.Batch.{Batch}
use Rattle.arc_data.specs.declared.batch.Entry.{Entry}
use Rattle.arc_data.specs.declared.practice.PracticeConfig.{PracticeConfig}
use Rattle.arc_data.specs.declared.practice.PracticeChange.{PracticeChange}
use Rattle.arc_data.specs.declared.rule.RuleSpec.{RuleSpec}
use Rattle.arc_data.specs.declared.op.Op.{Op}
use Rattle.arc_data.specs.declared.op.Op.TheVariants.{CreateControlPanel, DeleteControlPanel, CreateRoutingControl, DeleteRoutingControl, ListRoutingControls, GetRoutingControlState, UpdateRoutingControlState, UpdateRoutingControlStates, CreateSafetyRule, UpdateSafetyRule, DeleteSafetyRule, ListSafetyRules, RegisterManagedResource, GetManagedResource, ListManagedResources, StartZonalShift, UpdateZonalShift, CancelZonalShift, ListZonalShifts, CreatePracticeRunConfiguration, UpdatePracticeRunConfiguration, DeletePracticeRunConfiguration, StartPracticeRun, CancelPracticeRun, UpdateZonalAutoshiftConfiguration, StartAutoshift, EndAutoshift, SetAlarmState}
use Rattle.arc_data.specs.declared.record.Record.{Record}
use Rattle.arc_data.specs.declared.record.Record.TheVariants.{Opened, Promised, Voted, Closed}

-- identifiers

abbrev pub IsTypedPanel : PanelId → Type 0
IsTypedPanel panel = panel.0 < 2 ^ 64

abbrev pub IsTypedControl : ControlId → Type 0
IsTypedControl control = control.0 < 2 ^ 64

abbrev pub IsTypedRule : RuleId → Type 0
IsTypedRule rule = rule.0 < 2 ^ 64

abbrev pub IsTypedResource : ResourceId → Type 0
IsTypedResource resource = resource.0 < 2 ^ 64

abbrev pub IsTypedShift : ShiftId → Type 0
IsTypedShift shift = shift.0 < 2 ^ 64

-- a change of one control
abbrev pub IsTypedEntry : Entry → Type 0
IsTypedEntry entry = IsTypedControl entry.control

-- the name of a zone
pub record IsTypedZone (zone : List ℕ) : Type 0 where
  pub some : 1 ≤ length zone
  pub short : length zone ≤ 32
  pub text : IsUtf8 zone

-- a batch
abbrev pub IsTypedBatch : Batch → Type 0
IsTypedBatch batch = AllByRecursion IsTypedEntry batch.entries × AllByRecursion IsTypedRule batch.overrides

-- what a safety rule is made of
pub record IsTypedSpec (spec : RuleSpec) : Type 0 where
  pub name : IsUtf8 spec.name
  pub panel : IsTypedPanel spec.panel
  pub controls : AllByRecursion IsTypedControl spec.controls
  pub targets : IfSome spec.targets (AllByRecursion IsTypedControl)

-- texts
abbrev pub AreTexts : List (List ℕ) → Type 0
AreTexts texts = AllByRecursion IsUtf8 texts

-- a configuration of practice runs
abbrev pub IsTypedConfig : PracticeConfig → Type 0
IsTypedConfig config = AreTexts config.blocking_alarms × AreTexts config.outcome_alarms

-- a change of one
abbrev pub IsTypedChange : PracticeChange → Type 0
IsTypedChange change = IfSome change.blocking_alarms AreTexts × IfSome change.outcome_alarms AreTexts

-- an operation
abbrev pub IsTypedOp : Op → Type 0
IsTypedOp (CreateControlPanel name) = IsUtf8 name
IsTypedOp (DeleteControlPanel panel) = IsTypedPanel panel
IsTypedOp (CreateRoutingControl name panel) = IsUtf8 name × IsTypedPanel panel
IsTypedOp (DeleteRoutingControl control) = IsTypedControl control
IsTypedOp (ListRoutingControls panel) = IfSome panel IsTypedPanel
IsTypedOp (GetRoutingControlState control) = IsTypedControl control
IsTypedOp (UpdateRoutingControlState batch) = IsTypedBatch batch
IsTypedOp (UpdateRoutingControlStates batch) = IsTypedBatch batch
IsTypedOp (CreateSafetyRule spec) = IsTypedSpec spec
IsTypedOp (UpdateSafetyRule gating rule name wait) = IsTypedRule rule × IsUtf8 name
IsTypedOp (DeleteSafetyRule rule) = IsTypedRule rule
IsTypedOp (ListSafetyRules panel) = IsTypedPanel panel
IsTypedOp (RegisterManagedResource name zones) = IsUtf8 name × AllByRecursion IsTypedZone zones
IsTypedOp (GetManagedResource resource) = IsTypedResource resource
IsTypedOp ListManagedResources = ⊤
IsTypedOp (StartZonalShift resource zone minutes comment) = IsTypedResource resource × IsTypedZone zone × IsUtf8 comment
IsTypedOp (UpdateZonalShift shift comment minutes) = IsTypedShift shift × IfSome comment IsUtf8
IsTypedOp (CancelZonalShift shift) = IsTypedShift shift
IsTypedOp (ListZonalShifts resource status) = IfSome resource IsTypedResource
IsTypedOp (CreatePracticeRunConfiguration resource config) = IsTypedResource resource × IsTypedConfig config
IsTypedOp (UpdatePracticeRunConfiguration resource change) = IsTypedResource resource × IsTypedChange change
IsTypedOp (DeletePracticeRunConfiguration resource) = IsTypedResource resource
IsTypedOp (StartPracticeRun resource zone comment) = IsTypedResource resource × IsTypedZone zone × IsUtf8 comment
IsTypedOp (CancelPracticeRun shift) = IsTypedShift shift
IsTypedOp (UpdateZonalAutoshiftConfiguration resource enabled) = IsTypedResource resource
IsTypedOp (StartAutoshift zone) = IsTypedZone zone
IsTypedOp (EndAutoshift zone) = IsTypedZone zone
IsTypedOp (SetAlarmState alarm red) = IsUtf8 alarm

-- the identifier of a command
abbrev pub IsTypedId : CommandId → Type 0
IsTypedId id = (id.inc < 2 ^ 32) × (id.n < 2 ^ 32)

-- a command
pub record IsTyped (command : Command) : Type 0 where
  pub id : IsTypedId command.id
  pub token : command.token < 2 ^ 64
  pub op : IsTypedOp command.op

-- an entry of a journal
abbrev pub IsTypedRecord : Record → Type 0
IsTypedRecord (Opened inc) = inc < 2 ^ 32
IsTypedRecord (Promised from ballot) = (from < 2 ^ 32) × (ballot < 2 ^ 64)
IsTypedRecord (Voted slot ballot command) = (slot < 2 ^ 32) × (ballot < 2 ^ 64) × IsTyped command
IsTypedRecord (Closed slot command) = (slot < 2 ^ 32) × IsTyped command

-- ---- how long the names of zones are

-- the name of a zone
abbrev pub IsShortZone : List ℕ → Type 0
IsShortZone zone = length zone ≤ 32

-- the zones of an operation
abbrev pub HasShortZones : Op → Type 0
HasShortZones (CreateControlPanel name) = ⊤
HasShortZones (DeleteControlPanel panel) = ⊤
HasShortZones (CreateRoutingControl name panel) = ⊤
HasShortZones (DeleteRoutingControl control) = ⊤
HasShortZones (ListRoutingControls panel) = ⊤
HasShortZones (GetRoutingControlState control) = ⊤
HasShortZones (UpdateRoutingControlState batch) = ⊤
HasShortZones (UpdateRoutingControlStates batch) = ⊤
HasShortZones (CreateSafetyRule spec) = ⊤
HasShortZones (UpdateSafetyRule gating rule name wait) = ⊤
HasShortZones (DeleteSafetyRule rule) = ⊤
HasShortZones (ListSafetyRules panel) = ⊤
HasShortZones (RegisterManagedResource name zones) = AllByRecursion IsShortZone zones
HasShortZones (GetManagedResource resource) = ⊤
HasShortZones ListManagedResources = ⊤
HasShortZones (StartZonalShift resource zone minutes comment) = IsShortZone zone
HasShortZones (UpdateZonalShift shift comment minutes) = ⊤
HasShortZones (CancelZonalShift shift) = ⊤
HasShortZones (ListZonalShifts resource status) = ⊤
HasShortZones (CreatePracticeRunConfiguration resource config) = ⊤
HasShortZones (UpdatePracticeRunConfiguration resource change) = ⊤
HasShortZones (DeletePracticeRunConfiguration resource) = ⊤
HasShortZones (StartPracticeRun resource zone comment) = IsShortZone zone
HasShortZones (CancelPracticeRun shift) = ⊤
HasShortZones (UpdateZonalAutoshiftConfiguration resource enabled) = ⊤
HasShortZones (StartAutoshift zone) = IsShortZone zone
HasShortZones (EndAutoshift zone) = IsShortZone zone
HasShortZones (SetAlarmState alarm red) = ⊤

-- the zones of an entry
abbrev pub HasShortZonesIn : Record → Type 0
HasShortZonesIn (Opened inc) = ⊤
HasShortZonesIn (Promised from ballot) = ⊤
HasShortZonesIn (Voted slot ballot command) = HasShortZones command.op
HasShortZonesIn (Closed slot command) = HasShortZones command.op
