-- The one spelling of each command, and of each entry of a journal, in bytes. Numbers stand with the highest byte first.
use Rattle.std.specs.Prelude.{ℕ, Bool, true, false, List, [], ◌∷◌, ◌++◌, length, Option, Some, None, is_some}
use Rattle.std.specs.List.{flat_map}
use Rattle.std.specs.Int.{w16, w32, w64}
use Rattle.arc_bytes.specs.Numbers.{number_bytes}
use Rattle.arc_ids.specs.declared.command_id.CommandId.{CommandId}
use Rattle.arc_ids.specs.declared.named_id.ControlId.{ControlId}
use Rattle.arc_ids.specs.declared.named_id.PanelId.{PanelId}
use Rattle.arc_ids.specs.declared.named_id.ResourceId.{ResourceId}
use Rattle.arc_ids.specs.declared.named_id.RuleId.{RuleId}
use Rattle.arc_ids.specs.declared.named_id.ShiftId.{ShiftId}
use Rattle.arc_window.specs.declared.weekly.Window.{Window}
use Rattle.arc_data.specs.declared.command.Command.{Command}
use Rattle.arc_data.specs.declared.batch.Batch.{Batch}
use Rattle.arc_data.specs.declared.batch.Entry.{Entry}
use Rattle.arc_data.specs.declared.practice.PracticeConfig.{PracticeConfig}
use Rattle.arc_data.specs.declared.practice.PracticeChange.{PracticeChange}
use Rattle.arc_data.specs.declared.rule.RuleConfig.{RuleConfig}
use Rattle.arc_data.specs.declared.rule.RuleKind.{RuleKind}
use Rattle.arc_data.specs.declared.rule.RuleKind.TheVariants.{And, Or, AtLeast}
use Rattle.arc_data.specs.declared.rule.RuleSpec.{RuleSpec}
use Rattle.arc_data.specs.declared.shift.Status.{Status}
use Rattle.arc_data.specs.declared.shift.Status.TheVariants.{Active, Expired, Canceled}
use Rattle.arc_data.specs.declared.op.Op.{Op}
use Rattle.arc_data.specs.declared.op.Op.TheVariants.{CreateControlPanel, DeleteControlPanel, CreateRoutingControl, DeleteRoutingControl, ListRoutingControls, GetRoutingControlState, UpdateRoutingControlState, UpdateRoutingControlStates, CreateSafetyRule, UpdateSafetyRule, DeleteSafetyRule, ListSafetyRules, RegisterManagedResource, GetManagedResource, ListManagedResources, StartZonalShift, UpdateZonalShift, CancelZonalShift, ListZonalShifts, CreatePracticeRunConfiguration, UpdatePracticeRunConfiguration, DeletePracticeRunConfiguration, StartPracticeRun, CancelPracticeRun, UpdateZonalAutoshiftConfiguration, StartAutoshift, EndAutoshift, SetAlarmState}
use Rattle.arc_data.specs.declared.record.Record.{Record}
use Rattle.arc_data.specs.declared.record.Record.TheVariants.{Opened, Promised, Voted, Closed}

-- ---- fields of several kinds

-- a text: its length in two bytes, and its bytes
unfoldable pub text_bytes : List ℕ → List ℕ
text_bytes text = number_bytes w16 (length text) ++ text

-- a list: its count in two bytes, and its items
unfoldable pub list_bytes : {A : Type 0} → (A → List ℕ) → List A → List ℕ
list_bytes item items = number_bytes w16 (length items) ++ flat_map item items

-- a switch: one byte, 1 for On
abbrev pub switch_bytes : Bool → List ℕ
switch_bytes true = 1 ∷ []
switch_bytes false = 0 ∷ []

-- an identifier: its number in eight bytes
abbrev pub panel_bytes : PanelId → List ℕ
panel_bytes panel = number_bytes w64 panel.0

abbrev pub control_bytes : ControlId → List ℕ
control_bytes control = number_bytes w64 control.0

abbrev pub rule_bytes : RuleId → List ℕ
rule_bytes rule = number_bytes w64 rule.0

-- a change of one control: which one, and what it becomes
abbrev pub entry_bytes : Entry → List ℕ
entry_bytes entry = control_bytes entry.control ++ switch_bytes entry.on

abbrev pub resource_bytes : ResourceId → List ℕ
resource_bytes resource = number_bytes w64 resource.0

abbrev pub shift_bytes : ShiftId → List ℕ
shift_bytes shift = number_bytes w64 shift.0

-- minutes, waits and numbers of days: four bytes
abbrev pub long_bytes : ℕ → List ℕ
long_bytes n = number_bytes w32 n

-- what may be given: a switch, and the value where it is On
unfoldable pub option_bytes : {A : Type 0} → (A → List ℕ) → Option A → List ℕ
option_bytes value None = switch_bytes false
option_bytes value (Some x) = switch_bytes true ++ value x

-- a window: its first minute, and the one behind its last
abbrev pub window_bytes : Window → List ℕ
window_bytes window = number_bytes w16 window.from ++ number_bytes w16 window.to

-- the status of a shift
abbrev pub status_bytes : Status → List ℕ
status_bytes Active = 1 ∷ []
status_bytes Expired = 2 ∷ []
status_bytes Canceled = 3 ∷ []

-- ---- batches, safety rules, configurations of practice runs

-- a batch: its changes, and the rules that it bypasses
unfoldable pub batch_bytes : Batch → List ℕ
batch_bytes batch = list_bytes entry_bytes batch.entries ++ list_bytes rule_bytes batch.overrides

-- A batch of one change, which has no count.
unfoldable pub single_bytes : Batch → List ℕ
single_bytes batch = flat_map entry_bytes batch.entries ++ list_bytes rule_bytes batch.overrides

-- the kind of a safety rule: 1 for an assertion, 2 for a gate
abbrev pub gating_bytes : Bool → List ℕ
gating_bytes false = 1 ∷ []
gating_bytes true = 2 ∷ []

-- how a rule's value is made
abbrev pub rule_kind_bytes : RuleKind → List ℕ
rule_kind_bytes And = 1 ∷ []
rule_kind_bytes Or = 2 ∷ []
rule_kind_bytes AtLeast = 3 ∷ []

unfoldable pub rule_config_bytes : RuleConfig → List ℕ
rule_config_bytes config = rule_kind_bytes config.kind ++ number_bytes w16 config.threshold ++ switch_bytes config.inverted

abbrev pub controls_bytes : List ControlId → List ℕ
controls_bytes controls = list_bytes control_bytes controls

-- the targets, which only a gate has
abbrev pub targets_bytes : Option (List ControlId) → List ℕ
targets_bytes None = []
targets_bytes (Some targets) = controls_bytes targets

-- what a safety rule has behind its panel
unfoldable pub rule_parts_bytes : RuleSpec → List ℕ
rule_parts_bytes spec =
    controls_bytes spec.controls ++ targets_bytes spec.targets ++ rule_config_bytes spec.config ++ long_bytes spec.wait_ms

-- a safety rule: its kind, its name, its panel, and the rest
unfoldable pub rule_spec_bytes : RuleSpec → List ℕ
rule_spec_bytes spec = gating_bytes (is_some spec.targets) ++ text_bytes spec.name ++ panel_bytes spec.panel ++ rule_parts_bytes spec

abbrev pub dates_bytes : List ℕ → List ℕ
dates_bytes dates = list_bytes long_bytes dates

abbrev pub windows_bytes : List Window → List ℕ
windows_bytes windows = list_bytes window_bytes windows

abbrev pub texts_bytes : List (List ℕ) → List ℕ
texts_bytes texts = list_bytes text_bytes texts

unfoldable pub practice_config_bytes : PracticeConfig → List ℕ
practice_config_bytes config =
    dates_bytes config.blocked_dates ++ windows_bytes config.blocked_windows ++ texts_bytes config.blocking_alarms ++ texts_bytes config.outcome_alarms

unfoldable pub practice_change_bytes : PracticeChange → List ℕ
practice_change_bytes change =
    option_bytes dates_bytes change.blocked_dates ++ option_bytes windows_bytes change.blocked_windows
    ++ option_bytes texts_bytes change.blocking_alarms ++ option_bytes texts_bytes change.outcome_alarms

-- ---- commands

-- the number of an operation
abbrev pub tag_of : Op → ℕ
tag_of (CreateControlPanel name) = 1
tag_of (DeleteControlPanel panel) = 2
tag_of (CreateRoutingControl name panel) = 3
tag_of (DeleteRoutingControl control) = 4
tag_of (ListRoutingControls panel) = 5
tag_of (GetRoutingControlState control) = 6
tag_of (UpdateRoutingControlState batch) = 7
tag_of (UpdateRoutingControlStates batch) = 8
tag_of (CreateSafetyRule spec) = 9
tag_of (UpdateSafetyRule gating rule name wait) = 10
tag_of (DeleteSafetyRule rule) = 11
tag_of (ListSafetyRules panel) = 12
tag_of (RegisterManagedResource name zones) = 13
tag_of (GetManagedResource resource) = 14
tag_of ListManagedResources = 15
tag_of (StartZonalShift resource zone minutes comment) = 16
tag_of (UpdateZonalShift shift comment minutes) = 17
tag_of (CancelZonalShift shift) = 18
tag_of (ListZonalShifts resource status) = 19
tag_of (CreatePracticeRunConfiguration resource config) = 20
tag_of (UpdatePracticeRunConfiguration resource change) = 21
tag_of (DeletePracticeRunConfiguration resource) = 22
tag_of (StartPracticeRun resource zone comment) = 23
tag_of (CancelPracticeRun shift) = 24
tag_of (UpdateZonalAutoshiftConfiguration resource enabled) = 25
tag_of (StartAutoshift zone) = 26
tag_of (EndAutoshift zone) = 27
tag_of (SetAlarmState alarm red) = 28

-- the fields of an operation
unfoldable pub fields_of : Op → List ℕ
fields_of (CreateControlPanel name) = text_bytes name
fields_of (DeleteControlPanel panel) = panel_bytes panel
fields_of (CreateRoutingControl name panel) = text_bytes name ++ panel_bytes panel
fields_of (DeleteRoutingControl control) = control_bytes control
fields_of (ListRoutingControls panel) = option_bytes panel_bytes panel
fields_of (GetRoutingControlState control) = control_bytes control
fields_of (UpdateRoutingControlState batch) = single_bytes batch
fields_of (UpdateRoutingControlStates batch) = batch_bytes batch
fields_of (CreateSafetyRule spec) = rule_spec_bytes spec
fields_of (UpdateSafetyRule gating rule name wait) = gating_bytes gating ++ rule_bytes rule ++ text_bytes name ++ long_bytes wait
fields_of (DeleteSafetyRule rule) = rule_bytes rule
fields_of (ListSafetyRules panel) = panel_bytes panel
fields_of (RegisterManagedResource name zones) = text_bytes name ++ texts_bytes zones
fields_of (GetManagedResource resource) = resource_bytes resource
fields_of ListManagedResources = []
fields_of (StartZonalShift resource zone minutes comment) = resource_bytes resource ++ text_bytes zone ++ long_bytes minutes ++ text_bytes comment
fields_of (UpdateZonalShift shift comment minutes) = shift_bytes shift ++ option_bytes text_bytes comment ++ option_bytes long_bytes minutes
fields_of (CancelZonalShift shift) = shift_bytes shift
fields_of (ListZonalShifts resource status) = option_bytes resource_bytes resource ++ option_bytes status_bytes status
fields_of (CreatePracticeRunConfiguration resource config) = resource_bytes resource ++ practice_config_bytes config
fields_of (UpdatePracticeRunConfiguration resource change) = resource_bytes resource ++ practice_change_bytes change
fields_of (DeletePracticeRunConfiguration resource) = resource_bytes resource
fields_of (StartPracticeRun resource zone comment) = resource_bytes resource ++ text_bytes zone ++ text_bytes comment
fields_of (CancelPracticeRun shift) = shift_bytes shift
fields_of (UpdateZonalAutoshiftConfiguration resource enabled) = resource_bytes resource ++ switch_bytes enabled
fields_of (StartAutoshift zone) = text_bytes zone
fields_of (EndAutoshift zone) = text_bytes zone
fields_of (SetAlarmState alarm red) = text_bytes alarm ++ switch_bytes red

-- an operation: its number, and its fields
abbrev pub op_bytes : Op → List ℕ
op_bytes op = tag_of op ∷ fields_of op

-- the identifier of a command: the node in one byte, the incarnation and the number in four each
unfoldable pub id_bytes : CommandId → List ℕ
id_bytes id = id.node ∷ number_bytes w32 id.inc ++ number_bytes w32 id.n

-- a command: the version, the identifier, the time, the token and the operation
unfoldable pub command_bytes : Command → List ℕ
command_bytes command =
    1 ∷ id_bytes command.id ++ number_bytes w64 command.at_ms ++ number_bytes w64 command.token ++ op_bytes command.op

-- ---- entries of journals

-- the number of the kind of an entry
abbrev pub kind_of : Record → ℕ
kind_of (Opened inc) = 1
kind_of (Promised from ballot) = 2
kind_of (Voted slot ballot command) = 3
kind_of (Closed slot command) = 4

-- what an entry has behind its kind
unfoldable pub parts_of : Record → List ℕ
parts_of (Opened inc) = number_bytes w32 inc
parts_of (Promised from ballot) = number_bytes w32 from ++ number_bytes w64 ballot
parts_of (Voted slot ballot command) = number_bytes w32 slot ++ number_bytes w64 ballot ++ command_bytes command
parts_of (Closed slot command) = number_bytes w32 slot ++ command_bytes command

-- an entry: its kind, and the rest
unfoldable pub record_bytes : Record → List ℕ
record_bytes entry = kind_of entry ∷ parts_of entry
