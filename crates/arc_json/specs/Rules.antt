-- The members of operations on safety rules.
use Rattle.std.specs.Prelude.{ℕ, ◌==◌, Bool, true, false, List, length, codes, Option, Some, None, Result, Ok, Err}
use Rattle.std.specs.Borrow.{Bor}
use Rattle.serde_json.specs.Data.{Data}
use Rattle.serde_json.specs.View.{view}
use Rattle.serde_json.specs.declared.value.Value.{Value}
use Rattle.arc_ids.specs.declared.named_id.ControlId.{ControlId}
use Rattle.arc_ids.specs.declared.named_id.PanelId.{PanelId}
use Rattle.arc_data.specs.declared.op.Op.{Op}
use Rattle.arc_data.specs.declared.op.Op.TheVariants.{CreateSafetyRule, UpdateSafetyRule, DeleteSafetyRule, ListSafetyRules}
use Rattle.arc_data.specs.declared.rule.RuleConfig.{RuleConfig}
use Rattle.arc_data.specs.declared.rule.RuleKind.{RuleKind}
use Rattle.arc_data.specs.declared.rule.RuleKind.TheVariants.{And, Or, AtLeast}
use Rattle.arc_data.specs.declared.rule.RuleSpec.{RuleSpec}
use Rattle.arc_members.specs.declared.code.Code.{Code}
use Rattle.arc_members.specs.declared.code.Code.TheVariants.{BadRule, BadThreshold}
use Rattle.arc_members.specs.Lists.{set_in}
use Rattle.arc_members.specs.Members.{defaulted, given, required}
use Rattle.arc_members.specs.Reading.{Reading, ◌>>=◌, between, kept, object_in, truth_in, whole_in}
use Rattle.arc_members.specs.Values.{control_in, name_in, panel_in, rule_in, type_in, wait_in}

abbrev pub same_id : ControlId → ControlId → Bool
same_id a b = a.0 == b.0

-- the controls of a rule
unfoldable pub controls_in : Reading (List ControlId)
controls_in d = set_in same_id 1 32 control_in d

-- A threshold counts for ATLEAST alone, and is from 1 to the number of controls there. Elsewhere it is kept as 0.
unfoldable pub threshold_for : RuleKind → ℕ → ℕ → Result ℕ Code
threshold_for And controls threshold = Ok 0
threshold_for Or controls threshold = Ok 0
threshold_for AtLeast controls threshold = kept (between 1 controls) BadThreshold threshold

-- how a rule with so many controls is evaluated
unfoldable pub config_members : ℕ → Reading RuleConfig
config_members controls d = do
  kind ← required type_in (codes "Type") d
  given ← defaulted 0 whole_in (codes "Threshold") d
  threshold ← threshold_for kind controls given
  inverted ← defaulted false truth_in (codes "Inverted") d
  Ok (record { kind = kind; threshold = threshold; inverted = inverted })

unfoldable pub config_in : ℕ → Reading RuleConfig
config_in controls d = object_in d >>= config_members controls

-- what a rule is made of
abbrev pub spec_of : List ℕ → PanelId → List ControlId → Option (List ControlId) → RuleConfig → ℕ → RuleSpec
spec_of name panel controls targets config wait =
    record { name = name; panel = panel; controls = controls; targets = targets; config = config; wait_ms = wait }

-- an assertion
unfoldable pub assertion_members : Reading Op
assertion_members d = do
  name ← required name_in (codes "Name") d
  panel ← required panel_in (codes "ControlPanelArn") d
  controls ← required controls_in (codes "AssertedControls") d
  config ← required (config_in (length controls)) (codes "RuleConfig") d
  wait ← required wait_in (codes "WaitPeriodMs") d
  Ok (CreateSafetyRule (spec_of name panel controls None config wait))

-- a gate
unfoldable pub gate_members : Reading Op
gate_members d = do
  name ← required name_in (codes "Name") d
  panel ← required panel_in (codes "ControlPanelArn") d
  controls ← required controls_in (codes "GatingControls") d
  targets ← required controls_in (codes "TargetControls") d
  config ← required (config_in (length controls)) (codes "RuleConfig") d
  wait ← required wait_in (codes "WaitPeriodMs") d
  Ok (CreateSafetyRule (spec_of name panel controls (Some targets) config wait))

-- the same, as objects
abbrev pub assertion_in : Reading Op
assertion_in d = object_in d >>= assertion_members

abbrev pub gate_in : Reading Op
gate_in d = object_in d >>= gate_members

-- a value that is lent, as plain data
abbrev pub told : Option (Bor Value) → Option Data
told None = None
told (Some value) = Some (view value.now)

-- exactly one of two kinds is given
abbrev pub one_of : Reading Op → Reading Op → Option Data → Option Data → Result Op Code
one_of assertion gate None None = Err BadRule
one_of assertion gate (Some d) None = assertion d
one_of assertion gate None (Some d) = gate d
one_of assertion gate (Some d) (Some e) = Err BadRule

unfoldable pub create_safety_rule : Reading Op
create_safety_rule d =
    one_of assertion_in gate_in (given (codes "AssertionRule") d) (given (codes "GatingRule") d)

unfoldable pub update_members : Bool → Reading Op
update_members gating d = do
  rule ← required rule_in (codes "SafetyRuleArn") d
  name ← required name_in (codes "Name") d
  wait ← required wait_in (codes "WaitPeriodMs") d
  Ok (UpdateSafetyRule gating rule name wait)

abbrev pub update_in : Bool → Reading Op
update_in gating d = object_in d >>= update_members gating

unfoldable pub update_safety_rule : Reading Op
update_safety_rule d =
    one_of (update_in false) (update_in true)
    (given (codes "AssertionRuleUpdate") d) (given (codes "GatingRuleUpdate") d)

unfoldable pub delete_safety_rule : Reading Op
delete_safety_rule d = do
  rule ← required rule_in (codes "SafetyRuleArn") d
  Ok (DeleteSafetyRule rule)

unfoldable pub list_safety_rules : Reading Op
list_safety_rules d = do
  panel ← required panel_in (codes "ControlPanelArn") d
  Ok (ListSafetyRules panel)
