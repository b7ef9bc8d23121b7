-- Panels and controls as they are kept.
use Rattle.std.specs.Prelude.{ℕ, ◌≡◌, ◌==◌, ◌≤◌, List, length, map, All, Bool, true, Option, Some, None}
use Rattle.std.specs.Ordering.{nat_cmp}
use Rattle.std.specs.FinMap.{FinMap}
use Rattle.std.specs.List.{list_any}
use Rattle.arc_ids.specs.declared.named_id.PanelId.{PanelId}
use Rattle.arc_ids.specs.declared.named_id.ControlId.{ControlId}
use Rattle.arc_data.specs.declared.reply.ControlItem.{ControlItem}
use Rattle.arc_data.specs.States.{has_state, is_on}
use Rattle.arc_plain.specs.Panels.{most_controls}
use Rattle.arc_plain.specs.Panels.{PlainPanel, PlainPanels, most_panels}
use Rattle.arc_panel.specs.declared.tables.Panel.{Panel}
use Rattle.arc_panel.specs.declared.tables.Control.{Control}

-- a control with its state
abbrev pub item_with : FinMap nat_cmp Bool → Control → ControlItem
item_with states c = record { panel = c.panel; control = c.control; name = c.name; on = is_on states c.control }

-- a panel, and all controls, in order of creation
abbrev pub panel_with : Panel → PlainPanel
panel_with p = record { panel = p.panel; name = p.name }

-- what these parts are seen as
abbrev pub seen_as : List Panel → ℕ → List Control → ℕ → FinMap nat_cmp Bool → PlainPanels
seen_as panels panels_drawn controls controls_drawn states = record {
  panels = map panel_with panels;
  panels_drawn = panels_drawn;
  controls = map (item_with states) controls;
  controls_drawn = controls_drawn;
}

-- whether a control's panel is the one that is asked for, or all are
abbrev pub in_scope : Option PanelId → PanelId → Bool
in_scope None own = true
in_scope (Some panel) own = own.0 == panel.0

-- No more are kept than at most. Each control was drawn, and the controls and no others have a state.
pub record AreKept (panels : List Panel) (controls : List Control) (drawn : ℕ) (states : FinMap nat_cmp Bool) : Type 0 where
  pub panels_within : length panels ≤ most_panels
  pub controls_within : length controls ≤ most_controls
  pub drawn_before : All (λ c. c.control.0 ≤ drawn) controls
  pub have_states : (c : ControlId) → has_state states c ≡ list_any (λ k. k.control.0 == c.0) controls
