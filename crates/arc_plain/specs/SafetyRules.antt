-- What the operations on safety rules do.
use Rattle.std.specs.Prelude.{ℕ, ◌==◌, ◌++◌, List, [], find, Bool, false, not, Option, Ok, unwrap_or}
use Rattle.std.specs.Option.{option_map_or}
use Rattle.arc_ids.specs.declared.named_id.PanelId.{PanelId}
use Rattle.arc_ids.specs.declared.named_id.ControlId.{ControlId}
use Rattle.arc_ids.specs.declared.named_id.RuleId.{RuleId}
use Rattle.arc_data.specs.declared.reply.Body.TheVariants.{Empty, Rule}
use Rattle.arc_data.specs.declared.reply.Named.TheVariants as named
use Rattle.arc_data.specs.declared.reply.Refusal.TheVariants.{NotFound}
use Rattle.arc_data.specs.declared.rule.RuleSpec.{RuleSpec}
use Rattle.arc_plain.specs.Rows.{◌>>=◌, require, refuse_found}
use Rattle.arc_plain.specs.State.{Effect, Plain, with_rules}
use Rattle.arc_plain.specs.Panels.{PlainPanels, has_panel, panel_of}
use Rattle.arc_plain.specs.Rules.{add_rule, update_rule, remove_rule}

-- whether a control is in a panel
abbrev pub is_in_panel : PlainPanels → PanelId → ControlId → Bool
is_in_panel panels panel control = option_map_or (λ p. p.0 == panel.0) (panel_of panels control) false

-- the controls that a rule names: the asserted or gating ones, then the targets
abbrev pub named_by : RuleSpec → List ControlId
named_by spec = spec.controls ++ unwrap_or spec.targets []

-- the first control that a rule names and that isn't in its panel
unfoldable pub first_outside : PlainPanels → RuleSpec → Option ControlId
first_outside panels spec = find (λ c. not (is_in_panel panels spec.panel c)) (named_by spec)

-- A new rule names controls of its own panel alone.
unfoldable pub create_safety_rule : Plain → RuleSpec → Effect
create_safety_rule plain spec = do
  known ← require (has_panel plain.controls.panels spec.panel) (NotFound (named.Panel spec.panel))
  there ← refuse_found (λ c. NotFound (named.Control c)) (first_outside plain.controls.panels spec)
  made ← add_rule plain.controls.rules spec
  Ok (Rule made.0, with_rules plain made.1)

-- A rule gets another name and another wait.
unfoldable pub update_safety_rule : Plain → Bool → RuleId → List ℕ → ℕ → Effect
update_safety_rule plain gating rule name wait = do
  done ← update_rule plain.controls.rules gating rule name wait
  Ok (Empty, with_rules plain done.1)

-- A rule goes.
unfoldable pub delete_safety_rule : Plain → RuleId → Effect
delete_safety_rule plain rule = do
  done ← remove_rule plain.controls.rules rule
  Ok (Empty, with_rules plain done.1)
