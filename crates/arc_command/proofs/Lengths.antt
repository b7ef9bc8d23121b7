-- How long spellings are.
use Rattle.std.proofs.Common.{◌≡◌, ℕ, zero, suc, ◌+◌, ◌*◌, ◌≤◌, Bool, true, false, List, [], ◌∷◌, ◌++◌, length, All, Option, Some, None, is_some, refl, ap, ◌∙◌, arith}
use Rattle.std.specs.Prelude.{IfSome}
use Rattle.std.specs.Int.{Width, w16, w32, w64, byte_len, bytes_high_first}
use Rattle.std.specs.List.{flat_map, AllByRecursion}
use Rattle.std.proofs.lemmas.List.{length-append}
use Rattle.std.proofs.lemmas.List.Concat.{flat_map-cons}
use Rattle.arc_bytes.specs.Numbers.{number_bytes}
use Rattle.arc_ids.specs.declared.command_id.CommandId.{CommandId}
use Rattle.arc_data.specs.declared.command.Command.{Command}
use Rattle.arc_data.specs.declared.batch.Entry.{Entry}
use Rattle.arc_data.specs.declared.op.Op.{Op}
use Rattle.arc_data.specs.declared.op.Op.TheVariants.{CreateControlPanel, DeleteControlPanel, CreateRoutingControl, DeleteRoutingControl, ListRoutingControls, GetRoutingControlState, UpdateRoutingControlState, UpdateRoutingControlStates, CreateSafetyRule, UpdateSafetyRule, DeleteSafetyRule, ListSafetyRules, RegisterManagedResource, GetManagedResource, ListManagedResources, StartZonalShift, UpdateZonalShift, CancelZonalShift, ListZonalShifts, CreatePracticeRunConfiguration, UpdatePracticeRunConfiguration, DeletePracticeRunConfiguration, StartPracticeRun, CancelPracticeRun, UpdateZonalAutoshiftConfiguration, StartAutoshift, EndAutoshift, SetAlarmState}
use Rattle.arc_data.specs.declared.record.Record.{Record}
use Rattle.arc_data.specs.declared.record.Record.TheVariants.{Opened, Promised, Voted, Closed}
use Rattle.arc_ids.specs.declared.named_id.ControlId.{ControlId}
use Rattle.arc_ids.specs.declared.named_id.PanelId.{PanelId}
use Rattle.arc_ids.specs.declared.named_id.ResourceId.{ResourceId}
use Rattle.arc_window.specs.declared.weekly.Window.{Window}
use Rattle.arc_data.specs.declared.batch.Batch.{Batch}
use Rattle.arc_data.specs.declared.practice.PracticeChange.{PracticeChange}
use Rattle.arc_data.specs.declared.practice.PracticeConfig.{PracticeConfig}
use Rattle.arc_data.specs.declared.rule.RuleConfig.{RuleConfig}
use Rattle.arc_data.specs.declared.rule.RuleKind.{RuleKind}
use Rattle.arc_data.specs.declared.rule.RuleKind.TheVariants.{And, Or, AtLeast}
use Rattle.arc_data.specs.declared.rule.RuleSpec.{RuleSpec}
use Rattle.arc_data.specs.declared.shift.Status.{Status}
use Rattle.arc_data.specs.declared.shift.Status.TheVariants.{Active, Expired, Canceled}
use Rattle.arc_command.specs.Spelling.{text_bytes, list_bytes, switch_bytes, entry_bytes, rule_bytes, panel_bytes, control_bytes, resource_bytes, shift_bytes, long_bytes, option_bytes, window_bytes, status_bytes, batch_bytes, single_bytes, gating_bytes, rule_kind_bytes, rule_config_bytes, controls_bytes, targets_bytes, rule_parts_bytes, rule_spec_bytes, dates_bytes, windows_bytes, texts_bytes, practice_config_bytes, practice_change_bytes, fields_of, op_bytes, id_bytes, command_bytes, parts_of, record_bytes}
use Rattle.arc_command.specs.Typed.{IsShortZone, HasShortZones, HasShortZonesIn}
use Rattle.arc_data.specs.Valid.{IsName, IsComment, AreMinutes, IsBatch, AreControls, IsRule, AreDates, AreWindows, AreBlocking, AreOutcome, IsConfig, IsChange, AreZones, IsValid, IsValidCommand, IsValidRecord}
use Rattle.arc_command.proofs.Doubles.{each_to, each-from_All}
use Rattle.arc_command.proofs.KindLaws.{given_to}

length-high : (k n : ℕ) → length (bytes_high_first k n) ≡ k
length-high zero n = refl
length-high (suc k) n = ap suc (length-high k n)

-- a number has as many bytes as its type
pub length-number : (w : Width) (n : ℕ) → length (number_bytes w n) ≡ byte_len w
unfolding number_bytes
length-number w n = length-high (byte_len w) n

-- items of one length
pub length-items : {A : Type 0} (f : A → List ℕ) (k : ℕ) → ((x : A) → length (f x) ≡ k) → (xs : List A) →
    length (flat_map f xs) ≡ k * length xs
length-items f k each [] = omega arith
length-items f k each (x ∷ xs) =
    ap length (flat_map-cons f x xs) ∙ length-append (f x) (flat_map f xs)
    ∙ omega (arith, each x, length-items f k each xs)

length-switch : (on : Bool) → length (switch_bytes on) ≡ 1
length-switch true = refl
length-switch false = refl

length-entry : (e : Entry) → length (entry_bytes e) ≡ 9
length-entry e = omega (arith, length-append (control_bytes e.control) (switch_bytes e.on), length-number w64 e.control.0, length-switch e.on)

length-text : (text : List ℕ) → length (text_bytes text) ≡ 2 + length text
unfolding text_bytes
length-text text = omega (arith, length-append (number_bytes w16 (length text)) text, length-number w16 (length text))

-- items that aren't longer than this
short-items : {A : Type 0} (f : A → List ℕ) (k : ℕ) (xs : List A) → AllByRecursion (λ x. length (f x) ≤ k) xs →
    length (flat_map f xs) ≤ k * length xs
short-items f k [] each = omega arith
short-items f k (x ∷ xs) each =
    let all : length (flat_map f (x ∷ xs)) ≡ length (f x) + length (flat_map f xs) = ap length (flat_map-cons f x xs) ∙ length-append (f x) (flat_map f xs) in
    omega (arith, all, each.0, short-items f k xs each.1)

-- a list of items of one length
length-list : {A : Type 0} (f : A → List ℕ) (k : ℕ) → ((x : A) → length (f x) ≡ k) → (xs : List A) → length (list_bytes f xs) ≡ 2 + k * length xs
unfolding list_bytes
length-list f k each xs = omega (arith, length-append (number_bytes w16 (length xs)) (flat_map f xs), length-number w16 (length xs), length-items f k each xs)

-- a list of texts that aren't longer than this
short-texts : (k : ℕ) (xs : List (List ℕ)) → AllByRecursion (λ x. length x ≤ k) xs → length (texts_bytes xs) ≤ 2 + (2 + k) * length xs
unfolding list_bytes
short-texts k xs each =
    let all : AllByRecursion (λ x. length (text_bytes x) ≤ 2 + k) xs = each_to (λ x. length x ≤ k) (λ x. length (text_bytes x) ≤ 2 + k) (λ x le. omega (arith, length-text x, le)) xs each in
    omega (arith, length-append (number_bytes w16 (length xs)) (flat_map text_bytes xs), length-number w16 (length xs), short-items text_bytes (2 + k) xs all)

-- what may be given
short-option : {A : Type 0} (f : A → List ℕ) (k : ℕ) (o : Option A) → IfSome o (λ x. length (f x) ≤ k) → length (option_bytes f o) ≤ 1 + k
unfolding option_bytes
short-option f k None is = omega arith
short-option f k (Some x) is = omega (arith, is, length-append (switch_bytes true) (f x))

length-gating : (gating : Bool) → length (gating_bytes gating) ≡ 1
length-gating true = refl
length-gating false = refl

length-kind : (kind : RuleKind) → length (rule_kind_bytes kind) ≡ 1
length-kind And = refl
length-kind Or = refl
length-kind AtLeast = refl

length-status : (status : Status) → length (status_bytes status) ≡ 1
length-status Active = refl
length-status Expired = refl
length-status Canceled = refl

length-three : (a b c : List ℕ) → length (a ++ b ++ c) ≡ length a + length b + length c
length-three a b c = omega (arith, length-append (a ++ b) c, length-append a b)

length-four : (a b c d : List ℕ) → length (a ++ b ++ c ++ d) ≡ length a + length b + length c + length d
length-four a b c d = omega (arith, length-append (a ++ b ++ c) d, length-three a b c)

-- ---- lists

short-controls : (controls : List ControlId) → AreControls controls → length (controls_bytes controls) ≤ 258
short-controls controls are = omega (arith, are.0.1, length-list control_bytes 8 (λ control. length-number w64 control.0) controls)

short-targets : (targets : Option (List ControlId)) → IfSome targets AreControls → length (targets_bytes targets) ≤ 258
short-targets None is = omega arith
short-targets (Some targets) is = short-controls targets is

short-dates : (dates : List ℕ) → AreDates dates → length (dates_bytes dates) ≤ 62
short-dates dates are = omega (arith, are.0, length-list long_bytes 4 (λ day. length-number w32 day) dates)

length-window : (w : Window) → length (window_bytes w) ≡ 4
length-window w = omega (arith, length-append (number_bytes w16 w.from) (number_bytes w16 w.to), length-number w16 w.from, length-number w16 w.to)

short-windows : (windows : List Window) → AreWindows windows → length (windows_bytes windows) ≤ 62
short-windows windows are = omega (arith, are.0, length-list window_bytes 4 length-window windows)

short-names : (names : List (List ℕ)) → length names ≤ 4 → All IsName names → length (texts_bytes names) ≤ 266
short-names names few are =
    let each : AllByRecursion (λ x. length x ≤ 64) names = each_to IsName (λ x. length x ≤ 64) (λ x is. is.1) names (each-from_All IsName names are) in
    omega (arith, few, short-texts 64 names each)

short-zones : (zones : List (List ℕ)) → AreZones zones → AllByRecursion IsShortZone zones → length (texts_bytes zones) ≤ 206
short-zones zones are short = omega (arith, are.0.1, short-texts 32 zones short)

-- ---- batches, rules, configurations

short-batch : (batch : Batch) → IsBatch 16 batch → length (batch_bytes batch) ≤ 276
unfolding batch_bytes
short-batch batch valid =
    omega (arith, valid.entries.1, valid.overrides, length-append (list_bytes entry_bytes batch.entries) (list_bytes rule_bytes batch.overrides), length-list entry_bytes 9 length-entry batch.entries, length-list rule_bytes 8 (λ rule. length-number w64 rule.0) batch.overrides)

short-single : (batch : Batch) → IsBatch 1 batch → length (single_bytes batch) ≤ 139
unfolding single_bytes
short-single batch valid =
    omega (arith, valid.entries.1, valid.overrides, length-append (flat_map entry_bytes batch.entries) (list_bytes rule_bytes batch.overrides), length-items entry_bytes 9 length-entry batch.entries, length-list rule_bytes 8 (λ rule. length-number w64 rule.0) batch.overrides)

length-rule-config : (config : RuleConfig) → length (rule_config_bytes config) ≡ 4
unfolding rule_config_bytes
length-rule-config config =
    omega (arith, length-three (rule_kind_bytes config.kind) (number_bytes w16 config.threshold) (switch_bytes config.inverted), length-kind config.kind, length-number w16 config.threshold, length-switch config.inverted)

short-parts : (spec : RuleSpec) → IsRule spec → length (rule_parts_bytes spec) ≤ 524
unfolding rule_parts_bytes
short-parts spec valid =
    omega (arith, length-four (controls_bytes spec.controls) (targets_bytes spec.targets) (rule_config_bytes spec.config) (long_bytes spec.wait_ms), short-controls spec.controls valid.controls, short-targets spec.targets valid.targets, length-rule-config spec.config, length-number w32 spec.wait_ms)

short-rule : (spec : RuleSpec) → IsRule spec → length (rule_spec_bytes spec) ≤ 599
unfolding rule_spec_bytes
short-rule spec valid =
    omega (arith, length-four (gating_bytes (is_some spec.targets)) (text_bytes spec.name) (panel_bytes spec.panel) (rule_parts_bytes spec), length-gating (is_some spec.targets), length-text spec.name, valid.name.1, length-number w64 spec.panel.0, short-parts spec valid)

short-config : (config : PracticeConfig) → IsConfig config → length (practice_config_bytes config) ≤ 656
unfolding practice_config_bytes
short-config config valid =
    omega (arith, length-four (dates_bytes config.blocked_dates) (windows_bytes config.blocked_windows) (texts_bytes config.blocking_alarms) (texts_bytes config.outcome_alarms), short-dates config.blocked_dates valid.dates, short-windows config.blocked_windows valid.windows, short-names config.blocking_alarms valid.blocking.0 valid.blocking.1, short-names config.outcome_alarms valid.outcome.0.1 valid.outcome.1)

short-change : (change : PracticeChange) → IsChange change → length (practice_change_bytes change) ≤ 660
unfolding practice_change_bytes
short-change change valid =
    let dates = short-option dates_bytes 62 change.blocked_dates (given_to AreDates (λ x. length (dates_bytes x) ≤ 62) short-dates change.blocked_dates valid.dates) in
    let windows = short-option windows_bytes 62 change.blocked_windows (given_to AreWindows (λ x. length (windows_bytes x) ≤ 62) short-windows change.blocked_windows valid.windows) in
    let blocking = short-option texts_bytes 266 change.blocking_alarms (given_to AreBlocking (λ x. length (texts_bytes x) ≤ 266) (λ x is. short-names x is.0 is.1) change.blocking_alarms valid.blocking) in
    let outcome = short-option texts_bytes 266 change.outcome_alarms (given_to AreOutcome (λ x. length (texts_bytes x) ≤ 266) (λ x is. short-names x is.0.1 is.1) change.outcome_alarms valid.outcome) in
    omega (arith, length-four (option_bytes dates_bytes change.blocked_dates) (option_bytes windows_bytes change.blocked_windows) (option_bytes texts_bytes change.blocking_alarms) (option_bytes texts_bytes change.outcome_alarms), dates, windows, blocking, outcome)

any_status : (o : Option Status) → IfSome o (λ status. length (status_bytes status) ≤ 1)
any_status None = tt
any_status (Some status) = omega (arith, length-status status)

any_panel : (o : Option PanelId) → IfSome o (λ panel. length (panel_bytes panel) ≤ 8)
any_panel None = tt
any_panel (Some panel) = omega (arith, length-number w64 panel.0)

any_resource : (o : Option ResourceId) → IfSome o (λ resource. length (resource_bytes resource) ≤ 8)
any_resource None = tt
any_resource (Some resource) = omega (arith, length-number w64 resource.0)

-- ---- operations

-- the fields of an operation within its limits, whose zones have short names
length-fields : (op : Op) → IsValid op → HasShortZones op → length (fields_of op) ≤ 900
unfolding fields_of
length-fields (CreateControlPanel name) valid short = omega (arith, length-text name, valid.1)
length-fields (DeleteControlPanel panel) valid short = omega (arith, length-number w64 panel.0)
length-fields (CreateRoutingControl name panel) valid short =
    omega (arith, length-append (text_bytes name) (panel_bytes panel), length-text name, length-number w64 panel.0, valid.1)
length-fields (DeleteRoutingControl control) valid short = omega (arith, length-number w64 control.0)
length-fields (ListRoutingControls panel) valid short = omega (arith, short-option panel_bytes 8 panel (any_panel panel))
length-fields (GetRoutingControlState control) valid short = omega (arith, length-number w64 control.0)
length-fields (UpdateRoutingControlState batch) valid short = omega (arith, short-single batch valid)
length-fields (UpdateRoutingControlStates batch) valid short = omega (arith, short-batch batch valid)
length-fields (CreateSafetyRule spec) valid short = omega (arith, short-rule spec valid)
length-fields (UpdateSafetyRule gating rule name wait) valid short =
    omega (arith, length-four (gating_bytes gating) (rule_bytes rule) (text_bytes name) (long_bytes wait), length-gating gating, length-number w64 rule.0, length-text name, length-number w32 wait, valid.0.1)
length-fields (DeleteSafetyRule rule) valid short = omega (arith, length-number w64 rule.0)
length-fields (ListSafetyRules panel) valid short = omega (arith, length-number w64 panel.0)
length-fields (RegisterManagedResource name zones) valid short =
    omega (arith, length-append (text_bytes name) (texts_bytes zones), length-text name, valid.0.1, short-zones zones valid.1 short)
length-fields (GetManagedResource resource) valid short = omega (arith, length-number w64 resource.0)
length-fields ListManagedResources valid short = omega arith
length-fields (StartZonalShift resource zone minutes comment) valid short =
    omega (arith, length-four (resource_bytes resource) (text_bytes zone) (long_bytes minutes) (text_bytes comment), length-number w64 resource.0, length-text zone, short, length-number w32 minutes, length-text comment, valid.1)
length-fields (UpdateZonalShift shift comment minutes) valid short =
    let texts = short-option text_bytes 130 comment (given_to IsComment (λ x. length (text_bytes x) ≤ 130) (λ x is. omega (arith, length-text x, is)) comment valid.0) in
    let times = short-option long_bytes 4 minutes (given_to AreMinutes (λ x. length (long_bytes x) ≤ 4) (λ x is. omega (arith, length-number w32 x)) minutes valid.1) in
    omega (arith, length-three (shift_bytes shift) (option_bytes text_bytes comment) (option_bytes long_bytes minutes), length-number w64 shift.0, texts, times)
length-fields (CancelZonalShift shift) valid short = omega (arith, length-number w64 shift.0)
length-fields (ListZonalShifts resource status) valid short =
    omega (arith, length-append (option_bytes resource_bytes resource) (option_bytes status_bytes status), short-option resource_bytes 8 resource (any_resource resource), short-option status_bytes 1 status (any_status status))
length-fields (CreatePracticeRunConfiguration resource config) valid short =
    omega (arith, length-append (resource_bytes resource) (practice_config_bytes config), length-number w64 resource.0, short-config config valid)
length-fields (UpdatePracticeRunConfiguration resource change) valid short =
    omega (arith, length-append (resource_bytes resource) (practice_change_bytes change), length-number w64 resource.0, short-change change valid)
length-fields (DeletePracticeRunConfiguration resource) valid short = omega (arith, length-number w64 resource.0)
length-fields (StartPracticeRun resource zone comment) valid short =
    omega (arith, length-three (resource_bytes resource) (text_bytes zone) (text_bytes comment), length-number w64 resource.0, length-text zone, short, length-text comment, valid)
length-fields (CancelPracticeRun shift) valid short = omega (arith, length-number w64 shift.0)
length-fields (UpdateZonalAutoshiftConfiguration resource enabled) valid short =
    omega (arith, length-append (resource_bytes resource) (switch_bytes enabled), length-number w64 resource.0, length-switch enabled)
length-fields (StartAutoshift zone) valid short = omega (arith, length-text zone, short)
length-fields (EndAutoshift zone) valid short = omega (arith, length-text zone, short)
length-fields (SetAlarmState alarm red) valid short =
    omega (arith, length-append (text_bytes alarm) (switch_bytes red), length-text alarm, length-switch red, valid.1)

length-id : (id : CommandId) → length (id_bytes id) ≡ 9
unfolding id_bytes
length-id id = omega (arith, length-append (number_bytes w32 id.inc) (number_bytes w32 id.n), length-number w32 id.inc, length-number w32 id.n)

-- ---- commands and entries

-- a command within its limits has at most 1,024 bytes
pub command_is_short : (c : Command) → IsValidCommand c → HasShortZones c.op → length (command_bytes c) ≤ 1024
unfolding command_bytes
command_is_short c valid short =
    omega (arith, length-four (id_bytes c.id) (number_bytes w64 c.at_ms) (number_bytes w64 c.token) (op_bytes c.op), length-id c.id, length-number w64 c.at_ms, length-number w64 c.token, length-fields c.op valid.op short)

-- an entry whose command is within its limits has at most 1,037 bytes
pub record_is_short : (r : Record) → IsValidRecord r → HasShortZonesIn r → length (record_bytes r) ≤ 1037
unfolding record_bytes parts_of
record_is_short (Opened inc) valid short = omega (arith, length-number w32 inc)
record_is_short (Promised from ballot) valid short =
    omega (arith, length-append (number_bytes w32 from) (number_bytes w64 ballot), length-number w32 from, length-number w64 ballot)
record_is_short (Voted slot ballot command) valid short =
    omega (arith, length-three (number_bytes w32 slot) (number_bytes w64 ballot) (command_bytes command), length-number w32 slot, length-number w64 ballot, command_is_short command valid short)
record_is_short (Closed slot command) valid short =
    omega (arith, length-append (number_bytes w32 slot) (command_bytes command), length-number w32 slot, command_is_short command valid short)
