-- Panels and their controls, and what the operations on them do.
use Rattle.std.specs.Prelude.{ℕ, ◌+◌, ◌==◌, ◌&&◌, ◌++◌, List, [], ◌∷◌, codes, length, map, filter, find, Bool, false, not, nat_lt, Option, Some, None, Result, Ok, is_some, unwrap_or}
use Rattle.std.specs.List.{list_any}
use Rattle.std.specs.Option.{option_map}
use Rattle.std.specs.Str.{bytes_eq}
use Rattle.arc_ids.specs.declared.named_id.PanelId.{PanelId}
use Rattle.arc_ids.specs.declared.named_id.ControlId.{ControlId}
use Rattle.arc_data.specs.declared.batch.Entry.{Entry}
use Rattle.arc_data.specs.declared.reply.ControlItem.{ControlItem}
use Rattle.arc_data.specs.declared.reply.Named.TheVariants as named
use Rattle.arc_data.specs.declared.reply.Refusal.{Refusal}
use Rattle.arc_data.specs.declared.reply.Refusal.TheVariants.{NotFound, Limit, NameTaken, InUse}
use Rattle.arc_plain.specs.Rows.{◌>>=◌, require, refuse_found}

-- a panel and its name
pub record PlainPanel : Type 0 where
  pub panel : PanelId
  pub name : List ℕ

-- panels and controls, in order of creation, and how many identifiers of each were drawn
pub record PlainPanels : Type 0 where
  pub panels : List PlainPanel
  pub panels_drawn : ℕ
  pub controls : List ControlItem
  pub controls_drawn : ℕ

-- the panel with which a cluster starts; it is never removed
abbrev pub first_panel : PanelId
first_panel = record { 0 = 1 }

-- how a cluster starts
abbrev pub fresh_panels : PlainPanels
fresh_panels = record {
  panels = record { panel = first_panel; name = codes "DefaultControlPanel" } ∷ [];
  panels_drawn = 1;
  controls = [];
  controls_drawn = 0;
}

-- the most panels, and the most controls, that are kept
abbrev pub most_panels : ℕ
most_panels = 16

abbrev pub most_controls : ℕ
most_controls = 256

-- ---- what is there

-- whether there is a panel
abbrev pub has_panel : PlainPanels → PanelId → Bool
has_panel plain panel = list_any (λ p. p.panel.0 == panel.0) plain.panels

-- the control with this identifier
abbrev pub control_of : PlainPanels → ControlId → Option ControlItem
control_of plain control = find (λ c. c.control.0 == control.0) plain.controls

-- whether there is one
abbrev pub has_control : PlainPanels → ControlId → Bool
has_control plain control = is_some (control_of plain control)

-- whether a control is On; one that isn't there isn't
abbrev pub on_of : PlainPanels → ControlId → Bool
on_of plain control = unwrap_or (option_map (λ c. c.on) (control_of plain control)) false

-- the panel and the name of a control
abbrev pub panel_of : PlainPanels → ControlId → Option PanelId
panel_of plain control = option_map (λ c. c.panel) (control_of plain control)

abbrev pub name_of : PlainPanels → ControlId → Option (List ℕ)
name_of plain control = option_map (λ c. c.name) (control_of plain control)

-- the controls of a panel, in order of creation
abbrev pub in_panel : PlainPanels → PanelId → List ControlItem
in_panel plain panel = filter (λ c. c.panel.0 == panel.0) plain.controls

-- ---- panels

-- the identifier of the next panel: they are drawn from 1 on
abbrev pub next_panel : PlainPanels → PanelId
next_panel plain = record { 0 = plain.panels_drawn + 1 }

-- with one panel more
abbrev pub with_panel : PlainPanels → List ℕ → PlainPanels
with_panel plain name = record plain {
  panels = plain.panels ++ record { panel = next_panel plain; name = name } ∷ [];
  panels_drawn = plain.panels_drawn + 1;
}

-- A new panel has the next identifier. No two panels have one name.
unfoldable pub add_panel : PlainPanels → List ℕ → Result (PanelId × PlainPanels) Refusal
add_panel plain name = do
  room ← require (nat_lt (length plain.panels) most_panels) (Limit (length plain.panels))
  free ← refuse_found (λ holder. NameTaken (named.Panel holder.panel)) (find (λ p. bytes_eq p.name name) plain.panels)
  Ok (next_panel plain, with_panel plain name)

-- without a panel
abbrev pub without_panel : PlainPanels → PanelId → PlainPanels
without_panel plain panel = record plain { panels = filter (λ p. not (p.panel.0 == panel.0)) plain.panels }

-- The first panel stays, and so does one that has controls: the first of them is named.
unfoldable pub remove_panel : PlainPanels → PanelId → Result (Unit {0} × PlainPanels) Refusal
remove_panel plain panel = do
  known ← require (has_panel plain panel) (NotFound (named.Panel panel))
  other ← require (not (panel.0 == first_panel.0)) (InUse (named.Panel panel))
  empty ← refuse_found (λ c. InUse (named.Control c.control)) (find (λ c. c.panel.0 == panel.0) plain.controls)
  Ok (tt, without_panel plain panel)

-- ---- controls

-- the identifier of the next control: they are drawn from 1 on
abbrev pub next_control : PlainPanels → ControlId
next_control plain = record { 0 = plain.controls_drawn + 1 }

-- with one control more, Off
abbrev pub with_control : PlainPanels → List ℕ → PanelId → PlainPanels
with_control plain name panel = record plain {
  controls = plain.controls ++ record { panel = panel; control = next_control plain; name = name; on = false } ∷ [];
  controls_drawn = plain.controls_drawn + 1;
}

-- A new control has the next identifier and is Off. No two controls of one panel have one name; the limit counts the
-- controls of all panels.
unfoldable pub add_control : PlainPanels → List ℕ → PanelId → Result (ControlId × PlainPanels) Refusal
add_control plain name panel = do
  known ← require (has_panel plain panel) (NotFound (named.Panel panel))
  room ← require (nat_lt (length plain.controls) most_controls) (Limit (length plain.controls))
  free ← refuse_found (λ holder. NameTaken (named.Control holder.control))
      (find (λ c. (c.panel.0 == panel.0) && bytes_eq c.name name) plain.controls)
  Ok (next_control plain, with_control plain name panel)

-- without a control
abbrev pub without_control : PlainPanels → ControlId → PlainPanels
without_control plain control =
    record plain { controls = filter (λ c. not (c.control.0 == control.0)) plain.controls }

-- a control goes, with its state
unfoldable pub remove_control : PlainPanels → ControlId → Result (Unit {0} × PlainPanels) Refusal
remove_control plain control = do
  known ← require (has_control plain control) (NotFound (named.Control control))
  Ok (tt, without_control plain control)

-- the controls of one panel, or of all
unfoldable pub list_controls : PlainPanels → Option PanelId → Result (List ControlItem) Refusal
list_controls plain None = Ok plain.controls
list_controls plain (Some panel) = do
  known ← require (has_panel plain panel) (NotFound (named.Panel panel))
  Ok (in_panel plain panel)

-- ---- states

-- the state that a batch gives a control: that of its entry, or the present one
abbrev pub set_by : Option Entry → ControlItem → ControlItem
set_by None control = control
set_by (Some entry) control = record control { on = entry.on }

-- the controls with all entries of a batch set
abbrev pub with_set : List Entry → List ControlItem → List ControlItem
with_set entries controls = map (λ c. set_by (find (λ e. e.control.0 == c.control.0) entries) c) controls

-- with all entries set
abbrev pub with_states : PlainPanels → List Entry → PlainPanels
with_states plain entries = record plain { controls = with_set entries plain.controls }
