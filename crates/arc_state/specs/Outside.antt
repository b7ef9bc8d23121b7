-- Controls that a rule of a panel can't name.
use Rattle.std.specs.Prelude.{Bool, not}
use Rattle.arc_ids.specs.declared.named_id.ControlId.{ControlId}
use Rattle.arc_ids.specs.declared.named_id.PanelId.{PanelId}
use Rattle.arc_plain.specs.Panels.{PlainPanels}
use Rattle.arc_plain.specs.SafetyRules.{is_in_panel}

-- whether a control isn't in a panel
unfoldable pub is_outside : PlainPanels → PanelId → ControlId → Bool
is_outside panels panel control = not (is_in_panel panels panel control)
