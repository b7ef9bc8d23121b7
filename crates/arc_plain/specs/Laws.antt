-- What holds of the state after every list of commands.
use Rattle.std.specs.Prelude.{ℕ, ◌≡◌, ◌≢◌, ◌+◌, ◌≤◌, ◌<◌, List, All, AllPairs, length}
use Rattle.arc_data.specs.declared.reply.ControlItem.{ControlItem}
use Rattle.arc_plain.specs.State.{Plain}
use Rattle.arc_plain.specs.Panels.{PlainPanels, most_controls, most_panels}

-- each control's identifier is below those of the controls after it, so that no two have one identifier
abbrev pub AreAscending : List ControlItem → Type 0
AreAscending controls = AllPairs (λ earlier later. earlier.control.0 < later.control.0) controls

-- Identifiers, seen as numbers, ascend, and each was drawn: they are drawn from 1 on.
pub record AreDrawn {A : Type 0} (id_of : A → ℕ) (items : List A) (drawn : ℕ) : Type 0 where
  pub ascending : AllPairs (λ earlier later. id_of earlier < id_of later) items
  pub drawn_before : All (λ x. (1 ≤ id_of x) × (id_of x ≤ drawn)) items

-- No two controls of one panel have one name.
abbrev pub AreNamedApart : List ControlItem → Type 0
AreNamedApart controls = AllPairs (λ earlier later. earlier.panel.0 ≡ later.panel.0 → earlier.name ≢ later.name) controls

-- Shifts and practice runs that are kept have drawn identifiers, and none begins later than list time.
pub record AreBegun (plain : Plain) : Type 0 where
  pub shifts : All (λ s. (s.id.0 ≤ plain.shifts_drawn) × (s.start ≤ plain.time)) plain.shifts
  pub runs : All (λ r. (r.id.0 ≤ plain.shifts_drawn) × (r.start ≤ plain.time)) plain.practices.runs

-- A command draws at most one identifier; the first panel has its own from the start.
pub record AreCounted (plain : Plain) : Type 0 where
  pub panels : plain.controls.panels.panels_drawn ≤ plain.count + 1
  pub controls : plain.controls.panels.controls_drawn ≤ plain.count
  pub rules : plain.controls.rules.rules_drawn ≤ plain.count
  pub resources : plain.resources.drawn ≤ plain.count
  pub shifts : plain.shifts_drawn ≤ plain.count

-- what holds of the identifiers and of the times of a plain state
pub record IsOrderly (plain : Plain) : Type 0 where
  pub counted : AreCounted plain
  pub begun : AreBegun plain

-- a command draws at most one identifier of a kind, and gives none back
abbrev pub IsDrawnOn : ℕ → ℕ → Type 0
IsDrawnOn before after = (before ≤ after) × (after ≤ before + 1)

-- so it is with each kind, from one state to another
pub record Draws (plain after : Plain) : Type 0 where
  pub panels : IsDrawnOn plain.controls.panels.panels_drawn after.controls.panels.panels_drawn
  pub controls : IsDrawnOn plain.controls.panels.controls_drawn after.controls.panels.controls_drawn
  pub rules : IsDrawnOn plain.controls.rules.rules_drawn after.controls.rules.rules_drawn
  pub resources : IsDrawnOn plain.resources.drawn after.resources.drawn
  pub shifts : IsDrawnOn plain.shifts_drawn after.shifts_drawn

-- panels and controls: identifiers were drawn once, names differ, and no more are kept than the limits say
pub record AreKeptPanels (p : PlainPanels) : Type 0 where
  pub controls_drawn : AreDrawn (λ c. c.control.0) p.controls p.controls_drawn
  pub controls_apart : AreNamedApart p.controls
  pub controls_within : length p.controls ≤ most_controls
  pub panels_drawn : AreDrawn (λ x. x.panel.0) p.panels p.panels_drawn
  pub panels_apart : AllPairs (λ one other. one.name ≢ other.name) p.panels
  pub panels_within : length p.panels ≤ most_panels
