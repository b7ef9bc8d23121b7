-- What the operations tell that change nothing but list time.
use Rattle.std.specs.Prelude.{◌==◌, ◌&&◌, List, [], ◌∷◌, map, filter, Bool, true, false, nat_lt, Option, Some, None, is_some, Result, Ok, if◌then◌else◌}
use Rattle.std.specs.Option.{option_map_or}
use Rattle.arc_ids.specs.declared.named_id.PanelId.{PanelId}
use Rattle.arc_ids.specs.declared.named_id.ControlId.{ControlId}
use Rattle.arc_ids.specs.declared.named_id.ResourceId.{ResourceId}
use Rattle.arc_data.specs.declared.reply.Body.{Body}
use Rattle.arc_data.specs.declared.reply.Body.TheVariants as body
use Rattle.arc_data.specs.declared.reply.Named.TheVariants as named
use Rattle.arc_data.specs.declared.reply.Refusal.{Refusal}
use Rattle.arc_data.specs.declared.reply.Refusal.TheVariants.{NotFound}
use Rattle.arc_data.specs.declared.shift.ShiftItem.{ShiftItem}
use Rattle.arc_data.specs.declared.shift.Status.{Status}
use Rattle.arc_data.specs.declared.shift.Status.TheVariants.{Active, Expired, Canceled}
use Rattle.arc_plain.specs.Rows.{◌>>=◌, require, the_found}
use Rattle.arc_plain.specs.State.{Effect, Plain}
use Rattle.arc_plain.specs.Panels.{control_of, has_panel, list_controls}
use Rattle.arc_plain.specs.Rules.{rules_in}
use Rattle.arc_plain.specs.Resources.{items_of, resource_of}
use Rattle.arc_plain.specs.Precedence.{applied_to}
use Rattle.arc_plain.specs.ZonalShifts.{no_resource, shift_item}
use Rattle.arc_plain.specs.PracticeRuns.{run_item}

-- what is told, or why not
abbrev pub Telling : Type 0
Telling = Result Body Refusal

-- an operation that tells leaves the state as it is
abbrev pub told_in : Plain → Telling → Effect
told_in plain telling = do
  answer ← telling
  Ok (answer, plain)

-- ---- controls and rules

-- the controls of one panel, or of all
unfoldable pub list_routing_controls : Plain → Option PanelId → Telling
list_routing_controls plain panel = do
  items ← list_controls plain.controls.panels panel
  Ok (body.Controls items)

-- whether a control is On
unfoldable pub get_routing_control_state : Plain → ControlId → Telling
get_routing_control_state plain control = do
  there ← the_found (NotFound (named.Control control)) (control_of plain.controls.panels control)
  Ok (body.ControlState control there.name there.on)

-- the rules of a panel
unfoldable pub list_safety_rules : Plain → PanelId → Telling
list_safety_rules plain panel = do
  known ← require (has_panel plain.controls.panels panel) (NotFound (named.Panel panel))
  Ok (body.Rules (rules_in plain.controls.rules panel))

-- ---- resources

-- what is kept of a resource, and which shift is applied to it
unfoldable pub get_managed_resource : Plain → ResourceId → Telling
get_managed_resource plain resource = do
  there ← the_found (no_resource resource) (resource_of plain.resources resource)
  Ok (body.ResourceDetail (applied_to plain.shifts plain.practices plain.resources resource plain.time)
      there.zones there.name resource there.autoshift)

-- all resources
unfoldable pub list_managed_resources : Plain → Telling
list_managed_resources plain = Ok (body.Resources (items_of plain.resources))

-- ---- shifts and practice runs

-- one item of a list, or of another that goes on by itself, whichever comes first by identifier
abbrev pub merged_from : ShiftItem → (List ShiftItem → List ShiftItem) → List ShiftItem → List ShiftItem
merged_from x others [] = x ∷ others []
merged_from x others (y ∷ ys) = if nat_lt x.id.0 y.id.0 then x ∷ others (y ∷ ys) else y ∷ merged_from x others ys

-- two lists by ascending identifier, as one
abbrev pub merged : List ShiftItem → List ShiftItem → List ShiftItem
merged [] ys = ys
merged (x ∷ xs) ys = merged_from x (merged xs) ys

-- shifts and practice runs as replies show them, by identifier
abbrev pub shown_at : Plain → List ShiftItem
shown_at plain =
    merged (map (λ s. shift_item s plain.time) plain.shifts) (map (λ r. run_item r plain.time) plain.practices.runs)

-- whether two statuses are one
abbrev pub is_status : Status → Status → Bool
is_status Active Active = true
is_status Expired Expired = true
is_status Canceled Canceled = true
is_status asked other = false

-- whether an item is of the resource and of the status that are asked for, where they are
abbrev pub is_asked : Option ResourceId → Option Status → ShiftItem → Bool
is_asked resource status item =
    option_map_or (λ r. item.resource.0 == r.0) resource true && option_map_or (λ s. is_status s item.status) status true

-- the resource that is asked for has to be there
abbrev pub require_asked : Plain → Option ResourceId → Result (Unit {0}) Refusal
require_asked plain None = Ok tt
require_asked plain (Some resource) = require (is_some (resource_of plain.resources resource)) (no_resource resource)

-- the shifts and practice runs of one resource and one status, or of all
unfoldable pub list_zonal_shifts : Plain → Option ResourceId → Option Status → Telling
list_zonal_shifts plain resource status = do
  known ← require_asked plain resource
  Ok (body.Shifts (filter (is_asked resource status) (shown_at plain)))
