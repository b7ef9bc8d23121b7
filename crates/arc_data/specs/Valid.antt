-- The limits of operations, of commands and of entries.
use Rattle.std.specs.Prelude.{ℕ, ◌≡◌, ◌≢◌, ◌<◌, ◌≤◌, List, length, All, AllPairs, Option, IfSome, ⊤}
use Rattle.arc_ids.specs.declared.command_id.CommandId.{CommandId}
use Rattle.arc_ids.specs.declared.named_id.ControlId.{ControlId}
use Rattle.arc_window.specs.declared.weekly.Window.{Window}
use Rattle.arc_data.specs.declared.batch.Batch.{Batch}
use Rattle.arc_data.specs.declared.command.Command.{Command}
use Rattle.arc_data.specs.declared.op.Op.{Op}
use Rattle.arc_data.specs.declared.op.Op.TheVariants.{CreateControlPanel, DeleteControlPanel, CreateRoutingControl, DeleteRoutingControl, ListRoutingControls, GetRoutingControlState, UpdateRoutingControlState, UpdateRoutingControlStates, CreateSafetyRule, UpdateSafetyRule, DeleteSafetyRule, ListSafetyRules, RegisterManagedResource, GetManagedResource, ListManagedResources, StartZonalShift, UpdateZonalShift, CancelZonalShift, ListZonalShifts, CreatePracticeRunConfiguration, UpdatePracticeRunConfiguration, DeletePracticeRunConfiguration, StartPracticeRun, CancelPracticeRun, UpdateZonalAutoshiftConfiguration, StartAutoshift, EndAutoshift, SetAlarmState}
use Rattle.arc_data.specs.declared.practice.PracticeConfig.{PracticeConfig}
use Rattle.arc_data.specs.declared.practice.PracticeChange.{PracticeChange}
use Rattle.arc_data.specs.declared.record.Record.{Record}
use Rattle.arc_data.specs.declared.record.Record.TheVariants.{Opened, Promised, Voted, Closed}
use Rattle.arc_data.specs.declared.rule.RuleConfig.{RuleConfig}
use Rattle.arc_data.specs.declared.rule.RuleKind.{RuleKind}
use Rattle.arc_data.specs.declared.rule.RuleKind.TheVariants.{And, Or, AtLeast}
use Rattle.arc_data.specs.declared.rule.RuleSpec.{RuleSpec}

-- ---- texts and numbers

-- a name, of an alarm too: 1 to 64 bytes
abbrev pub IsName : List ℕ → Type 0
IsName name = (1 ≤ length name) × (length name ≤ 64)

-- a comment: at most 128 bytes
abbrev pub IsComment : List ℕ → Type 0
IsComment comment = length comment ≤ 128

-- a wait in milliseconds: at most a week
abbrev pub IsWait : ℕ → Type 0
IsWait wait = wait ≤ 604800000

-- the minutes of a shift: at most three days
abbrev pub AreMinutes : ℕ → Type 0
AreMinutes minutes = (1 ≤ minutes) × (minutes ≤ 4320)

-- the number of a day: from 1970-01-01 to 9999-12-31
abbrev pub IsDay : ℕ → Type 0
IsDay day = day ≤ 2932896

-- a weekly window: two different minutes of the week
abbrev pub IsWindow : Window → Type 0
IsWindow window = (window.from < 10080) × (window.to < 10080) × (window.from ≢ window.to)

-- a list with so few and so many items
abbrev pub HasBetween : {A : Type 0} → ℕ → ℕ → List A → Type 0
HasBetween least most items = (least ≤ length items) × (length items ≤ most)

-- ---- batches

-- a batch: from 1 to so many changes, each of another control, and at most 16 overrides
pub record IsBatch (most : ℕ) (batch : Batch) : Type 0 where
  pub entries : HasBetween 1 most batch.entries
  pub differ : AllPairs (λ a b. a.control ≢ b.control) batch.entries
  pub overrides : length batch.overrides ≤ 16

-- ---- safety rules

-- the controls of a rule in one list: from 1 to 32, each once
abbrev pub AreControls : List ControlId → Type 0
AreControls controls = HasBetween 1 32 controls × AllPairs (λ a b. a ≢ b) controls

-- A threshold: from 1 to the number of controls where it counts, and 0 elsewhere.
abbrev pub IsThreshold : RuleKind → ℕ → ℕ → Type 0
IsThreshold And threshold controls = threshold ≡ 0
IsThreshold Or threshold controls = threshold ≡ 0
IsThreshold AtLeast threshold controls = (1 ≤ threshold) × (threshold ≤ controls)

-- what a rule is made of
pub record IsRule (spec : RuleSpec) : Type 0 where
  pub name : IsName spec.name
  pub controls : AreControls spec.controls
  pub targets : IfSome spec.targets AreControls
  pub threshold : IsThreshold spec.config.kind spec.config.threshold (length spec.controls)
  pub wait : IsWait spec.wait_ms

-- ---- practice runs

abbrev pub AreDates : List ℕ → Type 0
AreDates dates = (length dates ≤ 15) × All IsDay dates

abbrev pub AreWindows : List Window → Type 0
AreWindows windows = (length windows ≤ 15) × All IsWindow windows

-- the alarms that don't let a run start: at most 4
abbrev pub AreBlocking : List (List ℕ) → Type 0
AreBlocking alarms = (length alarms ≤ 4) × All IsName alarms

-- the alarms that make a run fail: from 1 to 4
abbrev pub AreOutcome : List (List ℕ) → Type 0
AreOutcome alarms = HasBetween 1 4 alarms × All IsName alarms

-- a configuration of practice runs
pub record IsConfig (config : PracticeConfig) : Type 0 where
  pub dates : AreDates config.blocked_dates
  pub windows : AreWindows config.blocked_windows
  pub blocking : AreBlocking config.blocking_alarms
  pub outcome : AreOutcome config.outcome_alarms

-- a change of one: what is given is within its limits
pub record IsChange (change : PracticeChange) : Type 0 where
  pub dates : IfSome change.blocked_dates AreDates
  pub windows : IfSome change.blocked_windows AreWindows
  pub blocking : IfSome change.blocking_alarms AreBlocking
  pub outcome : IfSome change.outcome_alarms AreOutcome

-- ---- operations, commands, entries

-- the zones of a resource: from 1 to 6, each once
abbrev pub AreZones : List (List ℕ) → Type 0
AreZones zones = HasBetween 1 6 zones × AllPairs (λ a b. a ≢ b) zones

-- an operation within its limits
abbrev pub IsValid : Op → Type 0
IsValid (CreateControlPanel name) = IsName name
IsValid (DeleteControlPanel panel) = ⊤
IsValid (CreateRoutingControl name panel) = IsName name
IsValid (DeleteRoutingControl control) = ⊤
IsValid (ListRoutingControls panel) = ⊤
IsValid (GetRoutingControlState control) = ⊤
IsValid (UpdateRoutingControlState batch) = IsBatch 1 batch
IsValid (UpdateRoutingControlStates batch) = IsBatch 16 batch
IsValid (CreateSafetyRule spec) = IsRule spec
IsValid (UpdateSafetyRule gating rule name wait) = IsName name × IsWait wait
IsValid (DeleteSafetyRule rule) = ⊤
IsValid (ListSafetyRules panel) = ⊤
IsValid (RegisterManagedResource name zones) = IsName name × AreZones zones
IsValid (GetManagedResource resource) = ⊤
IsValid ListManagedResources = ⊤
IsValid (StartZonalShift resource zone minutes comment) = AreMinutes minutes × IsComment comment
IsValid (UpdateZonalShift shift comment minutes) = IfSome comment IsComment × IfSome minutes AreMinutes
IsValid (CancelZonalShift shift) = ⊤
IsValid (ListZonalShifts resource status) = ⊤
IsValid (CreatePracticeRunConfiguration resource config) = IsConfig config
IsValid (UpdatePracticeRunConfiguration resource change) = IsChange change
IsValid (DeletePracticeRunConfiguration resource) = ⊤
IsValid (StartPracticeRun resource zone comment) = IsComment comment
IsValid (CancelPracticeRun shift) = ⊤
IsValid (UpdateZonalAutoshiftConfiguration resource enabled) = ⊤
IsValid (StartAutoshift zone) = ⊤
IsValid (EndAutoshift zone) = ⊤
IsValid (SetAlarmState alarm red) = IsName alarm

-- the identifier of a command: one of five nodes, in an incarnation that is counted from 1
pub record IsInRange (id : CommandId) : Type 0 where
  pub node : id.node < 5
  pub inc : 1 ≤ id.inc

-- a command within its limits: its time is before the year 10000
pub record IsValidCommand (command : Command) : Type 0 where
  pub id : IsInRange command.id
  pub time : command.at_ms ≤ 253402300799999
  pub op : IsValid command.op

-- an entry whose command, where it has one, is within its limits
abbrev pub IsValidRecord : Record → Type 0
IsValidRecord (Opened inc) = ⊤
IsValidRecord (Promised from ballot) = ⊤
IsValidRecord (Voted slot ballot command) = IsValidCommand command
IsValidRecord (Closed slot command) = IsValidCommand command
