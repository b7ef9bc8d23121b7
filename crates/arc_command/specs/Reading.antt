-- How commands and entries of journals are read, field by field.
use Rattle.std.specs.Prelude.{◌≡◌, ℕ, ◌==◌, ◌&&◌, Bool, true, false, not, nat_le, nat_lt, if◌then◌else◌, List, [], ◌∷◌, length, Option, Some, None, Result, Ok, Err, ⊤}
use Rattle.std.specs.Int.{w16, w32, w64}
use Rattle.std.specs.Str.{bytes_eq}
use Rattle.arc_ids.specs.declared.command_id.CommandId.{CommandId}
use Rattle.arc_ids.specs.declared.named_id.ControlId.{ControlId}
use Rattle.arc_ids.specs.declared.named_id.PanelId.{PanelId}
use Rattle.arc_ids.specs.declared.named_id.ResourceId.{ResourceId}
use Rattle.arc_ids.specs.declared.named_id.RuleId.{RuleId}
use Rattle.arc_ids.specs.declared.named_id.ShiftId.{ShiftId}
use Rattle.arc_window.specs.declared.weekly.Window.{Window}
use Rattle.arc_command.specs.declared.bytes.CommandEnd.{CommandEnd}
use Rattle.arc_command.specs.declared.bytes.CommandEnd.TheVariants as end
use Rattle.arc_data.specs.declared.command.Command.{Command}
use Rattle.arc_data.specs.declared.batch.Batch.{Batch}
use Rattle.arc_data.specs.declared.batch.Entry.{Entry}
use Rattle.arc_data.specs.declared.practice.PracticeConfig.{PracticeConfig}
use Rattle.arc_data.specs.declared.practice.PracticeChange.{PracticeChange}
use Rattle.arc_data.specs.declared.rule.RuleConfig.{RuleConfig}
use Rattle.arc_data.specs.declared.rule.RuleKind.{RuleKind}
use Rattle.arc_data.specs.declared.rule.RuleKind.TheVariants.{And, Or, AtLeast}
use Rattle.arc_data.specs.declared.rule.RuleSpec.{RuleSpec}
use Rattle.arc_data.specs.declared.shift.Status.{Status}
use Rattle.arc_data.specs.declared.shift.Status.TheVariants.{Active, Expired, Canceled}
use Rattle.arc_data.specs.declared.op.Op.{Op}
use Rattle.arc_data.specs.declared.op.Op.TheVariants.{CreateControlPanel, DeleteControlPanel, CreateRoutingControl, DeleteRoutingControl, ListRoutingControls, GetRoutingControlState, UpdateRoutingControlState, UpdateRoutingControlStates, CreateSafetyRule, UpdateSafetyRule, DeleteSafetyRule, ListSafetyRules, RegisterManagedResource, GetManagedResource, ListManagedResources, StartZonalShift, UpdateZonalShift, CancelZonalShift, ListZonalShifts, CreatePracticeRunConfiguration, UpdatePracticeRunConfiguration, DeletePracticeRunConfiguration, StartPracticeRun, CancelPracticeRun, UpdateZonalAutoshiftConfiguration, StartAutoshift, EndAutoshift, SetAlarmState}
use Rattle.arc_data.specs.declared.record.Record.{Record}
use Rattle.arc_data.specs.declared.record.Record.TheVariants.{Opened, Promised, Voted, Closed}
use Rattle.arc_command.specs.Reader.{Reader, ◌>>=◌, pair, depends, always, mapped, within, byte_at, uint_at, text_at, switch_at, option_at, list_at, any, is_new, or_else, tagged, nothing, whole}

-- what a function answered is what is read, want of memory apart
abbrev pub Gives : {A : Type 0} → Result A CommandEnd → Result A ℕ → Type 0
Gives (Ok x) read = read ≡ Ok x
Gives (Err (end.BadCommand place)) read = read ≡ Err place
Gives (Err end.Memory) read = ⊤

-- ---- fields of several kinds

-- identifiers: any number of eight bytes
unfoldable pub panel_at : Reader PanelId
panel_at = mapped (λ n. record { 0 = n }) (uint_at w64)

unfoldable pub control_at : Reader ControlId
control_at = mapped (λ n. record { 0 = n }) (uint_at w64)

unfoldable pub rule_at : Reader RuleId
rule_at = mapped (λ n. record { 0 = n }) (uint_at w64)

unfoldable pub resource_at : Reader ResourceId
resource_at = mapped (λ n. record { 0 = n }) (uint_at w64)

unfoldable pub shift_at : Reader ShiftId
shift_at = mapped (λ n. record { 0 = n }) (uint_at w64)

-- a name, of an alarm too
abbrev pub name_at : Reader (List ℕ)
name_at = text_at 1 64

abbrev pub comment_at : Reader (List ℕ)
comment_at = text_at 0 128

abbrev pub zone_at : Reader (List ℕ)
zone_at = text_at 1 32

-- a wait in milliseconds
unfoldable pub wait_at : Reader ℕ
wait_at = within (λ ms. nat_le ms 604800000) (uint_at w32)

-- the minutes of a shift
unfoldable pub minutes_at : Reader ℕ
minutes_at = within (λ minutes. nat_le 1 minutes && nat_le minutes 4320) (uint_at w32)

-- the number of a day
unfoldable pub day_at : Reader ℕ
day_at = within (λ day. nat_le day 2932896) (uint_at w32)

-- a minute of the week
abbrev pub minute_at : Reader ℕ
minute_at = within (λ minute. nat_lt minute 10080) (uint_at w16)

-- a window: a minute of the week, and another one
unfoldable pub window_at : Reader Window
window_at =
    mapped (λ x. record { from = x.0; to = x.1 })
    (depends minute_at (λ from. within (λ to. nat_lt to 10080 && not (to == from)) (uint_at w16)))

-- the status of a shift: 1 to 3
abbrev pub status_of : ℕ → Status
status_of b = if b == 1 then Active else if b == 2 then Expired else Canceled

unfoldable pub status_at : Reader Status
status_at = mapped status_of (within (λ b. nat_le 1 b && nat_le b 3) byte_at)

-- ---- items of lists that hold nothing twice

-- a control that isn't there yet
unfoldable pub new_control_at : List ControlId → Reader ControlId
new_control_at earlier = within (is_new (λ other control. other.0 == control.0) earlier) control_at

-- a zone that isn't there yet
unfoldable pub new_zone_at : List (List ℕ) → Reader (List ℕ)
new_zone_at earlier = within (is_new bytes_eq earlier) zone_at

-- a change of a control that isn't changed yet
unfoldable pub entry_at : List Entry → Reader Entry
entry_at earlier =
    mapped (λ x. record { control = x.0; on = x.1 })
    (pair (within (is_new (λ other control. other.control.0 == control.0) earlier) control_at) switch_at)

-- ---- batches, safety rules, configurations of practice runs

abbrev pub overrides_at : Reader (List RuleId)
overrides_at = list_at 0 16 (any rule_at)

-- a batch
unfoldable pub batch_at : Reader Batch
batch_at = mapped (λ x. record { entries = x.0; overrides = x.1 }) (pair (list_at 1 16 entry_at) overrides_at)

-- a batch of one change, which has no count
unfoldable pub single_at : Reader Batch
single_at = mapped (λ x. record { entries = x.0 ∷ []; overrides = x.1 }) (pair (entry_at []) overrides_at)

-- the kind of a safety rule: 1 for an assertion, 2 for a gate
unfoldable pub gating_at : Reader Bool
gating_at = mapped (λ b. b == 2) (within (λ b. nat_le 1 b && nat_le b 2) byte_at)

-- how a rule's value is made: 1 to 3
abbrev pub rule_kind_of : ℕ → RuleKind
rule_kind_of b = if b == 1 then And else if b == 2 then Or else AtLeast

unfoldable pub rule_kind_at : Reader RuleKind
rule_kind_at = mapped rule_kind_of (within (λ b. nat_le 1 b && nat_le b 3) byte_at)

-- whether a threshold fits so many controls
abbrev pub fits_threshold : RuleKind → ℕ → ℕ → Bool
fits_threshold And controls threshold = threshold == 0
fits_threshold Or controls threshold = threshold == 0
fits_threshold AtLeast controls threshold = nat_le 1 threshold && nat_le threshold controls

-- how a rule over so many controls is evaluated
unfoldable pub rule_config_at : ℕ → Reader RuleConfig
rule_config_at controls =
    mapped (λ x. record { kind = x.0; threshold = x.1.0; inverted = x.1.1 })
    (depends rule_kind_at (λ kind. pair (within (fits_threshold kind controls) (uint_at w16)) switch_at))

-- the controls of a rule in one list
abbrev pub controls_at : Reader (List ControlId)
controls_at = list_at 1 32 new_control_at

-- the targets, which only a gate has
unfoldable pub targets_at : Bool → Reader (Option (List ControlId))
targets_at false = always None
targets_at true = mapped Some controls_at

-- a safety rule
unfoldable pub rule_spec_at : Reader RuleSpec
rule_spec_at =
    mapped (λ x. record {
      name = x.1.0;
      panel = x.1.1.0;
      controls = x.1.1.1.0;
      targets = x.1.1.1.1.0;
      config = x.1.1.1.1.1.0;
      wait_ms = x.1.1.1.1.1.1;
    }) (depends gating_at (λ gating. pair name_at (pair panel_at (depends controls_at (λ controls.
    pair (targets_at gating) (pair (rule_config_at (length controls)) wait_at))))))

abbrev pub dates_at : Reader (List ℕ)
dates_at = list_at 0 15 (any day_at)

abbrev pub windows_at : Reader (List Window)
windows_at = list_at 0 15 (any window_at)

-- the alarms that don't let a run start
abbrev pub blocking_at : Reader (List (List ℕ))
blocking_at = list_at 0 4 (any name_at)

-- the alarms that make a run fail
abbrev pub outcome_at : Reader (List (List ℕ))
outcome_at = list_at 1 4 (any name_at)

unfoldable pub practice_config_at : Reader PracticeConfig
practice_config_at =
    mapped (λ x. record { blocked_dates = x.0; blocked_windows = x.1.0; blocking_alarms = x.1.1.0; outcome_alarms = x.1.1.1 })
    (pair dates_at (pair windows_at (pair blocking_at outcome_at)))

unfoldable pub practice_change_at : Reader PracticeChange
practice_change_at =
    mapped (λ x. record { blocked_dates = x.0; blocked_windows = x.1.0; blocking_alarms = x.1.1.0; outcome_alarms = x.1.1.1 })
    (pair (option_at dates_at) (pair (option_at windows_at) (pair (option_at blocking_at) (option_at outcome_at))))

-- ---- operations

unfoldable pub create_routing_control_at : Reader Op
create_routing_control_at = mapped (λ x. CreateRoutingControl x.0 x.1) (pair name_at panel_at)

unfoldable pub update_safety_rule_at : Reader Op
update_safety_rule_at =
    mapped (λ x. UpdateSafetyRule x.0 x.1.0 x.1.1.0 x.1.1.1) (pair gating_at (pair rule_at (pair name_at wait_at)))

unfoldable pub register_managed_resource_at : Reader Op
register_managed_resource_at = mapped (λ x. RegisterManagedResource x.0 x.1) (pair name_at (list_at 1 6 new_zone_at))

unfoldable pub start_zonal_shift_at : Reader Op
start_zonal_shift_at =
    mapped (λ x. StartZonalShift x.0 x.1.0 x.1.1.0 x.1.1.1) (pair resource_at (pair zone_at (pair minutes_at comment_at)))

unfoldable pub update_zonal_shift_at : Reader Op
update_zonal_shift_at =
    mapped (λ x. UpdateZonalShift x.0 x.1.0 x.1.1) (pair shift_at (pair (option_at comment_at) (option_at minutes_at)))

unfoldable pub list_zonal_shifts_at : Reader Op
list_zonal_shifts_at = mapped (λ x. ListZonalShifts x.0 x.1) (pair (option_at resource_at) (option_at status_at))

unfoldable pub create_practice_run_configuration_at : Reader Op
create_practice_run_configuration_at =
    mapped (λ x. CreatePracticeRunConfiguration x.0 x.1) (pair resource_at practice_config_at)

unfoldable pub update_practice_run_configuration_at : Reader Op
update_practice_run_configuration_at =
    mapped (λ x. UpdatePracticeRunConfiguration x.0 x.1) (pair resource_at practice_change_at)

unfoldable pub start_practice_run_at : Reader Op
start_practice_run_at =
    mapped (λ x. StartPracticeRun x.0 x.1.0 x.1.1) (pair resource_at (pair zone_at comment_at))

unfoldable pub update_zonal_autoshift_configuration_at : Reader Op
update_zonal_autoshift_configuration_at =
    mapped (λ x. UpdateZonalAutoshiftConfiguration x.0 x.1) (pair resource_at switch_at)

unfoldable pub set_alarm_state_at : Reader Op
set_alarm_state_at = mapped (λ x. SetAlarmState x.0 x.1) (pair name_at switch_at)

-- the fields of the operation of this number
unfoldable pub fields_at : ℕ → Option (Reader Op)
fields_at tag =
    if tag == 1 then Some (mapped CreateControlPanel name_at) else
    if tag == 2 then Some (mapped DeleteControlPanel panel_at) else
    if tag == 3 then Some create_routing_control_at else
    if tag == 4 then Some (mapped DeleteRoutingControl control_at) else
    if tag == 5 then Some (mapped ListRoutingControls (option_at panel_at)) else
    if tag == 6 then Some (mapped GetRoutingControlState control_at) else
    if tag == 7 then Some (mapped UpdateRoutingControlState single_at) else
    if tag == 8 then Some (mapped UpdateRoutingControlStates batch_at) else
    if tag == 9 then Some (mapped CreateSafetyRule rule_spec_at) else
    if tag == 10 then Some update_safety_rule_at else
    if tag == 11 then Some (mapped DeleteSafetyRule rule_at) else
    if tag == 12 then Some (mapped ListSafetyRules panel_at) else
    if tag == 13 then Some register_managed_resource_at else
    if tag == 14 then Some (mapped GetManagedResource resource_at) else
    if tag == 15 then Some (always ListManagedResources) else
    if tag == 16 then Some start_zonal_shift_at else
    if tag == 17 then Some update_zonal_shift_at else
    if tag == 18 then Some (mapped CancelZonalShift shift_at) else
    if tag == 19 then Some list_zonal_shifts_at else
    if tag == 20 then Some create_practice_run_configuration_at else
    if tag == 21 then Some update_practice_run_configuration_at else
    if tag == 22 then Some (mapped DeletePracticeRunConfiguration resource_at) else
    if tag == 23 then Some start_practice_run_at else
    if tag == 24 then Some (mapped CancelPracticeRun shift_at) else
    if tag == 25 then Some update_zonal_autoshift_configuration_at else
    if tag == 26 then Some (mapped StartAutoshift zone_at) else
    if tag == 27 then Some (mapped EndAutoshift zone_at) else
    if tag == 28 then Some set_alarm_state_at else None

-- an operation: its number, and its fields
unfoldable pub op_at : Reader Op
op_at bytes at = byte_at bytes at >>= λ tag. or_else at (fields_at tag.0) bytes tag.1

-- ---- commands

-- the identifier of a command: the node, the incarnation, the number
unfoldable pub command_id_at : Reader CommandId
command_id_at =
    mapped (λ x. record { node = x.0; inc = x.1.0; n = x.1.1 })
    (pair (within (λ node. nat_lt node 5) byte_at) (pair (within (λ inc. nat_le 1 inc) (uint_at w32)) (uint_at w32)))

-- the version
abbrev pub version_at : Reader ℕ
version_at = within (λ b. b == 1) byte_at

-- when a call came
abbrev pub time_at : Reader ℕ
time_at = within (λ ms. nat_le ms 253402300799999) (uint_at w64)

-- a command: the version, the identifier, the time, the token and the operation
unfoldable pub command_at : Reader Command
command_at =
    mapped (λ x. record { id = x.1.0; at_ms = x.1.1.0; token = x.1.1.1.0; op = x.1.1.1.1 })
    (pair version_at (pair command_id_at (pair time_at (pair (uint_at w64) op_at))))

-- ---- entries of journals

unfoldable pub opened_at : Reader Record
opened_at = mapped Opened (uint_at w32)

unfoldable pub promised_at : Reader Record
promised_at = mapped (λ x. Promised x.0 x.1) (pair (uint_at w32) (uint_at w64))

unfoldable pub voted_at : Reader Record
voted_at = mapped (λ x. Voted x.0 x.1.0 x.1.1) (pair (uint_at w32) (pair (uint_at w64) command_at))

unfoldable pub closed_at : Reader Record
closed_at = mapped (λ x. Closed x.0 x.1) (pair (uint_at w32) command_at)

-- an entry
unfoldable pub record_at : Reader Record
record_at = tagged 1 opened_at (tagged 2 promised_at (tagged 3 voted_at (tagged 4 closed_at nothing)))

-- a body: one entry and nothing behind it
unfoldable pub body_of : List ℕ → Result Record ℕ
body_of bytes = whole record_at bytes
