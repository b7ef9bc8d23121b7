-- What the operations on practice runs, autoshifts and alarms do.
use Rattle.std.specs.Prelude.{ℕ, ◌+◌, ◌&&◌, ◌||◌, List, [], Bool, false, not, Some, Ok, is_some, if◌then◌else◌}
use Rattle.std.specs.Option.{option_map_or}
use Rattle.arc_ids.specs.declared.named_id.ResourceId.{ResourceId}
use Rattle.arc_ids.specs.declared.named_id.ShiftId.{ShiftId}
use Rattle.arc_data.specs.declared.practice.Ending.TheVariants.{Interrupt}
use Rattle.arc_data.specs.declared.practice.PracticeConfig.{PracticeConfig}
use Rattle.arc_data.specs.declared.practice.PracticeChange.{PracticeChange}
use Rattle.arc_data.specs.declared.practice.Run.{Run}
use Rattle.arc_data.specs.declared.reply.Body.TheVariants as body
use Rattle.arc_data.specs.declared.reply.Named.TheVariants as named
use Rattle.arc_data.specs.declared.reply.Refusal.TheVariants.{NotFound, NotConfigured, WrongZone, Busy, Enabled}
use Rattle.arc_data.specs.declared.shift.Kind.TheVariants.{PracticeRun}
use Rattle.arc_data.specs.declared.shift.ShiftItem.{ShiftItem}
use Rattle.arc_plain.specs.Rows.{◌>>=◌, require, refuse_found, the_found}
use Rattle.arc_plain.specs.State.{Effect, Plain, next_shift}
use Rattle.arc_plain.specs.Resources.{PlainResources, autoshift_ended, autoshift_set, autoshift_started, resource_of}
use Rattle.arc_plain.specs.Practice.{PlainPractices, after_event, alarm_set, config_changed, config_of, configured, interrupted, new_run, outcome_at, pending_of, run_canceled, run_ms, run_of, run_started, run_status, without_config}
use Rattle.arc_plain.specs.Precedence.{applied_to, autoshift_at}
use Rattle.arc_plain.specs.ZonalShifts.{has_zone, no_resource, with_room}

-- ---- configurations

-- Practice runs of a resource are configured once.
unfoldable pub create_practice_configuration : Plain → ResourceId → PracticeConfig → Effect
create_practice_configuration plain resource config = do
  there ← the_found (no_resource resource) (resource_of plain.resources resource)
  practices ← configured plain.practices resource config
  Ok (body.Empty, record plain { practices = practices })

-- What is given replaces. Runs keep the outcome alarms with which they started.
unfoldable pub update_practice_configuration : Plain → ResourceId → PracticeChange → Effect
update_practice_configuration plain resource change = do
  there ← the_found (no_resource resource) (resource_of plain.resources resource)
  practices ← config_changed plain.practices resource change
  Ok (body.Empty, record plain { practices = practices })

-- whether a resource has a configuration
abbrev pub is_configured : PlainPractices → ResourceId → Bool
is_configured practices resource = is_some (config_of practices resource)

-- A configuration goes, where no run of the resource is pending and autoshift isn't enabled for it.
unfoldable pub delete_practice_configuration : Plain → ResourceId → Effect
delete_practice_configuration plain resource = do
  there ← the_found (no_resource resource) (resource_of plain.resources resource)
  known ← require (is_configured plain.practices resource) (NotConfigured resource)
  idle ← refuse_found (λ r. Busy PracticeRun) (pending_of plain.practices.runs resource plain.time)
  off ← require (not there.autoshift) (Enabled resource)
  Ok (body.Empty, record plain { practices = without_config plain.practices resource })

-- ---- runs

-- a run as replies show it at a list time
abbrev pub run_item : Run → ℕ → ShiftItem
run_item run now = record {
  id = run.id;
  resource = run.resource;
  away_from = run.away_from;
  comment = run.comment;
  start = run.start;
  expiry = run.start + run_ms;
  status = run_status (outcome_at run now);
  outcome = Some (outcome_at run now);
}

-- a run that begins now, as replies show it: its alarms aren't shown
abbrev pub new_run_item : ShiftId → ResourceId → List ℕ → List ℕ → ℕ → ShiftItem
new_run_item id resource zone comment now = run_item (new_run id resource zone comment now []) now

-- A new run has the next identifier, and begins now, where nothing else moves the resource's traffic away and nothing
-- blocks it. What has to be forgotten is forgotten first.
unfoldable pub start_practice_run : Plain → ResourceId → List ℕ → List ℕ → Effect
start_practice_run plain resource zone comment = do
  there ← the_found (no_resource resource) (resource_of plain.resources resource)
  known ← require (is_configured plain.practices resource) (NotConfigured resource)
  inside ← require (has_zone there zone) (WrongZone zone)
  free ← refuse_found (λ applied. Busy applied.0)
      (applied_to plain.shifts plain.practices plain.resources resource plain.time)
  practices ← run_started (with_room plain).practices (next_shift plain) resource zone comment plain.time
  Ok (
    body.Shift (new_run_item (next_shift plain) resource zone comment plain.time),
    record (with_room plain) { practices = practices; shifts_drawn = plain.shifts_drawn + 1 },
  )

-- A pending run is interrupted, and shown as it is then.
unfoldable pub cancel_practice_run : Plain → ShiftId → Effect
cancel_practice_run plain id = do
  practices ← run_canceled plain.practices id plain.time
  run ← the_found (NotFound (named.Shift id)) (run_of practices id)
  Ok (body.Shift (run_item run plain.time), record plain { practices = practices })

-- ---- autoshifts

-- the practice runs after a change of one resource: where an autoshift applies to it, its pending run is interrupted
abbrev pub yielding_on : PlainPractices → PlainResources → ResourceId → ℕ → PlainPractices
yielding_on practices resources resource now =
    if is_some (autoshift_at (resource_of resources resource) resources.autoshifts)
    then interrupted practices resource now else practices

-- Autoshift is enabled for a resource that has a configuration, or disabled.
unfoldable pub update_autoshift_configuration : Plain → ResourceId → Bool → Effect
update_autoshift_configuration plain resource enabled = do
  there ← the_found (no_resource resource) (resource_of plain.resources resource)
  known ← require (not enabled || is_configured plain.practices resource) (NotConfigured resource)
  resources ← autoshift_set plain.resources resource enabled
  Ok (
    body.Autoshift resource enabled,
    record plain { resources = resources; practices = yielding_on plain.practices resources resource plain.time },
  )

-- whether autoshift is enabled for a resource that has this zone
abbrev pub yields_to : PlainResources → List ℕ → ResourceId → Bool
yields_to resources zone resource =
    option_map_or (λ r. r.autoshift && has_zone r zone) (resource_of resources resource) false

-- A zone goes into autoshift: pending runs of the resources that yield to it are interrupted.
unfoldable pub start_autoshift : Plain → List ℕ → Effect
start_autoshift plain zone = do
  resources ← autoshift_started plain.resources zone
  Ok (
    body.Empty,
    record plain {
      resources = resources;
      practices = after_event (λ r. yields_to plain.resources zone r.resource) Interrupt plain.time plain.practices;
    },
  )

-- A zone comes out of autoshift.
unfoldable pub end_autoshift : Plain → List ℕ → Effect
end_autoshift plain zone = do
  resources ← autoshift_ended plain.resources zone
  Ok (body.Empty, record plain { resources = resources })

-- ---- alarms

-- An alarm is set. Where it is set red, the pending runs fail whose outcome alarm it is.
unfoldable pub set_alarm_state : Plain → List ℕ → Bool → Effect
set_alarm_state plain alarm red = do
  practices ← alarm_set plain.practices alarm red plain.time
  Ok (body.Empty, record plain { practices = practices })
