-- What the operations on panels and controls do: a refusal, the first that applies, or an answer with the next state.
use Rattle.std.specs.Prelude.{ℕ, List, Ok}
use Rattle.arc_ids.specs.declared.named_id.PanelId.{PanelId}
use Rattle.arc_ids.specs.declared.named_id.ControlId.{ControlId}
use Rattle.arc_data.specs.declared.batch.Batch.{Batch}
use Rattle.arc_data.specs.declared.reply.Body.TheVariants.{Empty, Panel, Control}
use Rattle.arc_data.specs.declared.reply.Named.TheVariants as named
use Rattle.arc_data.specs.declared.reply.Refusal.TheVariants.{NotFound, InUse}
use Rattle.arc_plain.specs.Rows.{◌>>=◌, require, refuse_found}
use Rattle.arc_plain.specs.State.{Effect, Plain, with_panels}
use Rattle.arc_plain.specs.Panels.{add_panel, remove_panel, add_control, remove_control, has_control}
use Rattle.arc_plain.specs.Rules.{user_of}
use Rattle.arc_plain.specs.Batch.{commit_batch}

-- A new panel has the next identifier.
unfoldable pub create_control_panel : Plain → List ℕ → Effect
create_control_panel plain name = do
  made ← add_panel plain.controls.panels name
  Ok (Panel made.0 name, with_panels plain made.1)

-- A panel without controls goes; the first one stays.
unfoldable pub delete_control_panel : Plain → PanelId → Effect
delete_control_panel plain panel = do
  done ← remove_panel plain.controls.panels panel
  Ok (Empty, with_panels plain done.1)

-- A new control has the next identifier and is Off.
unfoldable pub create_routing_control : Plain → List ℕ → PanelId → Effect
create_routing_control plain name panel = do
  made ← add_control plain.controls.panels name panel
  Ok (Control panel name made.0, with_panels plain made.1)

-- A control that no safety rule names goes; else the first rule that does is told.
unfoldable pub delete_routing_control : Plain → ControlId → Effect
delete_routing_control plain control = do
  known ← require (has_control plain.controls.panels control) (NotFound (named.Control control))
  unused ← refuse_found (λ rule. InUse (named.Rule rule)) (user_of plain.controls.rules control)
  done ← remove_control plain.controls.panels control
  Ok (Empty, with_panels plain done.1)

-- A batch is done at list time, whole or not at all.
unfoldable pub update_states : Plain → Batch → Effect
update_states plain batch = do
  done ← commit_batch plain.controls batch plain.time
  Ok (Empty, record plain { controls = done.1 })
