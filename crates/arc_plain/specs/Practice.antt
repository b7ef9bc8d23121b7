-- Practice runs: what is kept of them, what became of one, what blocks them, and what the calls on them leave.
use Rattle.std.specs.Prelude.{ℕ, ◌+◌, ◌==◌, ◌&&◌, ◌++◌, nat_lt, nat_le, Bool, true, false, not, List, [], ◌∷◌, length, map, filter, find, Option, Some, None, is_some, unwrap_or, Result, Ok, Err, if◌then◌else◌}
use Rattle.std.specs.List.{list_any}
use Rattle.std.specs.Option.{option_map}
use Rattle.std.specs.Str.{bytes_eq}
use Rattle.arc_ids.specs.declared.named_id.ResourceId.{ResourceId}
use Rattle.arc_ids.specs.declared.named_id.ShiftId.{ShiftId}
use Rattle.arc_window.specs.declared.blocking.BlockedBy.{BlockedBy}
use Rattle.arc_window.specs.declared.blocking.BlockedBy.TheVariants as by
use Rattle.arc_window.specs.Blocked.{blocked_at}
use Rattle.arc_data.specs.declared.practice.Ending.{Ending}
use Rattle.arc_data.specs.declared.practice.Ending.TheVariants.{Alarm, Interrupt}
use Rattle.arc_data.specs.declared.practice.Run.{Run}
use Rattle.arc_data.specs.declared.practice.Configured.{Configured}
use Rattle.arc_data.specs.declared.practice.PracticeConfig.{PracticeConfig}
use Rattle.arc_data.specs.declared.practice.PracticeChange.{PracticeChange}
use Rattle.arc_data.specs.declared.practice.BlockCause.{BlockCause}
use Rattle.arc_data.specs.declared.practice.BlockCause.TheVariants.{BlockedDate, BlockedWindow, BlockingAlarm, OutcomeAlarm}
use Rattle.arc_data.specs.declared.shift.Outcome.{Outcome}
use Rattle.arc_data.specs.declared.shift.Outcome.TheVariants.{Pending, Succeeded, Failed, Interrupted}
use Rattle.arc_data.specs.declared.shift.Status.{Status}
use Rattle.arc_data.specs.declared.shift.Status.TheVariants as shift
use Rattle.arc_data.specs.declared.reply.Named.TheVariants as named
use Rattle.arc_data.specs.declared.reply.Refusal.{Refusal}
use Rattle.arc_data.specs.declared.reply.Refusal.TheVariants as refusal

-- the configurations of resources, the runs by ascending identifier, and the alarms that are red
pub record PlainPractices : Type 0 where
  pub configs : List Configured
  pub runs : List Run
  pub red : List (List ℕ)

-- none
abbrev pub no_practices : PlainPractices
no_practices = record { configs = []; runs = []; red = [] }

-- ---- what became of a run

-- a run lasts 30 minutes
abbrev pub run_ms : ℕ
run_ms = 1_800_000

-- what a run's first ending event makes of it
abbrev pub ended_by : Ending → Outcome
ended_by Alarm = Failed
ended_by Interrupt = Interrupted

-- what becomes of a run without an ending event: it succeeds when its 30 minutes are over
abbrev pub unended_at : ℕ → ℕ → Outcome
unended_at start now = if nat_le (start + run_ms) now then Succeeded else Pending

-- The first ending event decides, where it came before the 30 minutes were over.
abbrev pub outcome_by : Option (Ending × ℕ) → ℕ → ℕ → Outcome
outcome_by None start now = unended_at start now
outcome_by (Some event) start now = if nat_lt event.1 (start + run_ms) then ended_by event.0 else unended_at start now

-- what became of a run
abbrev pub outcome_at : Run → ℕ → Outcome
outcome_at run now = outcome_by run.ended run.start now

-- whether a run isn't over
abbrev pub is_pending : Outcome → Bool
is_pending Pending = true
is_pending Succeeded = false
is_pending Failed = false
is_pending Interrupted = false

-- a run's outcome as the status of a shift
abbrev pub run_status : Outcome → Status
run_status Pending = shift.Active
run_status Succeeded = shift.Expired
run_status Failed = shift.Canceled
run_status Interrupted = shift.Canceled

-- the pending run of a resource
abbrev pub pending_of : List Run → ResourceId → ℕ → Option Run
pending_of runs resource now = find (λ r. (r.resource.0 == resource.0) && is_pending (outcome_at r now)) runs

-- ---- what blocks a run

-- whether one of these alarms is red
abbrev pub some_red : List (List ℕ) → List (List ℕ) → Bool
some_red red alarms = list_any (λ alarm. list_any (λ r. bytes_eq r alarm) red) alarms

-- an alarm that blocks, where no date and no window does
abbrev pub alarm_cause : PracticeConfig → List (List ℕ) → Option BlockCause
alarm_cause config red =
    if some_red red config.blocking_alarms then Some BlockingAlarm
    else (if some_red red config.outcome_alarms then Some OutcomeAlarm else None)

-- Dates come first, then windows, then blocking alarms, then outcome alarms.
abbrev pub cause_by : Option BlockedBy → PracticeConfig → List (List ℕ) → Option BlockCause
cause_by (Some by.Date) config red = Some BlockedDate
cause_by (Some by.Window) config red = Some BlockedWindow
cause_by None config red = alarm_cause config red

-- what doesn't let a run start now
abbrev pub cause_at : PracticeConfig → List (List ℕ) → ℕ → Option BlockCause
cause_at config red now = cause_by (blocked_at config.blocked_dates config.blocked_windows now) config red

-- ---- configurations

-- a resource's configuration
abbrev pub config_of : PlainPractices → ResourceId → Option PracticeConfig
config_of practices resource = option_map (λ c. c.config) (find (λ c. c.resource.0 == resource.0) practices.configs)

-- One more configuration, where the resource has none.
unfoldable pub configured : PlainPractices → ResourceId → PracticeConfig → Result PlainPractices Refusal
configured practices resource config =
    if is_some (config_of practices resource) then Err (refusal.Configured resource)
    else Ok (record practices { configs = practices.configs ++ record { resource = resource; config = config } ∷ [] })

-- a configuration in which what is given replaces
abbrev pub replaced : PracticeChange → Configured → Configured
replaced change kept = record kept {
  config = record {
    blocked_dates = unwrap_or change.blocked_dates kept.config.blocked_dates;
    blocked_windows = unwrap_or change.blocked_windows kept.config.blocked_windows;
    blocking_alarms = unwrap_or change.blocking_alarms kept.config.blocking_alarms;
    outcome_alarms = unwrap_or change.outcome_alarms kept.config.outcome_alarms;
  };
}

-- A configuration is changed; runs keep the outcome alarms with which they started.
unfoldable pub config_changed : PlainPractices → ResourceId → PracticeChange → Result PlainPractices Refusal
config_changed practices resource change =
    if is_some (config_of practices resource)
    then Ok (record practices { configs = map (λ c. if c.resource.0 == resource.0 then replaced change c else c) practices.configs })
    else Err (refusal.NotConfigured resource)

-- without the configuration of a resource
abbrev pub without_config : PlainPractices → ResourceId → PlainPractices
without_config practices resource =
    record practices { configs = filter (λ c. not (c.resource.0 == resource.0)) practices.configs }

-- ---- runs

-- a run that starts now, with the outcome alarms of its configuration
abbrev pub new_run : ShiftId → ResourceId → List ℕ → List ℕ → ℕ → List (List ℕ) → Run
new_run id resource zone comment now alarms = record {
  id = id;
  resource = resource;
  away_from = zone;
  comment = comment;
  start = now;
  outcome_alarms = alarms;
  ended = None;
}

-- one more run, where nothing blocks it
abbrev pub started_by : Option BlockCause → PlainPractices → Run → Result PlainPractices Refusal
started_by None practices run = Ok (record practices { runs = practices.runs ++ run ∷ [] })
started_by (Some cause) practices run = Err (refusal.Blocked cause)

-- the same, for a resource that has a configuration or has none
abbrev pub started_with : Option PracticeConfig → PlainPractices → ShiftId → ResourceId → List ℕ → List ℕ → ℕ → Result PlainPractices Refusal
started_with None practices id resource zone comment now = Err (refusal.NotConfigured resource)
started_with (Some config) practices id resource zone comment now =
    started_by (cause_at config practices.red now) practices (new_run id resource zone comment now config.outcome_alarms)

unfoldable pub run_started : PlainPractices → ShiftId → ResourceId → List ℕ → List ℕ → ℕ → Result PlainPractices Refusal
run_started practices id resource zone comment now =
    started_with (config_of practices resource) practices id resource zone comment now

-- a run that an event ends now, where it is pending and the event is one for it
abbrev pub ended_where : (Run → Bool) → Ending → ℕ → Run → Run
ended_where affects ending now run =
    if affects run && is_pending (outcome_at run now) then record run { ended = Some (ending, now) } else run

-- the runs after such an event
abbrev pub after_event : (Run → Bool) → Ending → ℕ → PlainPractices → PlainPractices
after_event affects ending now practices =
    record practices { runs = map (ended_where affects ending now) practices.runs }

-- the run with this identifier
abbrev pub run_of : PlainPractices → ShiftId → Option Run
run_of practices id = find (λ r. r.id.0 == id.0) practices.runs

-- A pending run is interrupted by a cancel; one that isn't there, or isn't pending, isn't.
abbrev pub canceled_found : PlainPractices → ShiftId → ℕ → Option Run → Result PlainPractices Refusal
canceled_found practices id now None = Err (refusal.NotFound (named.Shift id))
canceled_found practices id now (Some run) =
    if is_pending (outcome_at run now) then Ok (after_event (λ r. r.id.0 == id.0) Interrupt now practices)
    else Err (refusal.NotActive (run_status (outcome_at run now)))

unfoldable pub run_canceled : PlainPractices → ShiftId → ℕ → Result PlainPractices Refusal
run_canceled practices id now = canceled_found practices id now (run_of practices id)

-- another shift of the resource interrupts its pending run
abbrev pub interrupted : PlainPractices → ResourceId → ℕ → PlainPractices
interrupted practices resource now = after_event (λ r. r.resource.0 == resource.0) Interrupt now practices

-- without the run of this identifier
abbrev pub without_run : PlainPractices → ShiftId → PlainPractices
without_run practices id = record practices { runs = filter (λ r. not (r.id.0 == id.0)) practices.runs }

-- ---- alarms

-- the most alarms that are red at once
abbrev pub most_red : ℕ
most_red = 256

-- whether an alarm is red; one that was never set isn't
abbrev pub is_red : PlainPractices → List ℕ → Bool
is_red practices alarm = list_any (λ r. bytes_eq r alarm) practices.red

-- the alarms that are red once this one is
abbrev pub with_red : PlainPractices → List ℕ → PlainPractices
with_red practices alarm =
    if is_red practices alarm then practices else record practices { red = practices.red ++ alarm ∷ [] }

-- whether a run fails by an alarm
abbrev pub fails_by : List ℕ → Run → Bool
fails_by alarm run = list_any (λ a. bytes_eq a alarm) run.outcome_alarms

-- An alarm that is set red makes the pending runs fail of which it is an outcome alarm.
unfoldable pub alarm_set : PlainPractices → List ℕ → Bool → ℕ → Result PlainPractices Refusal
alarm_set practices alarm red now =
    if not red then Ok (record practices { red = filter (λ r. not (bytes_eq r alarm)) practices.red })
    else (if not (is_red practices alarm) && not (nat_lt (length practices.red) most_red)
    then Err (refusal.Limit (length practices.red))
    else Ok (after_event (fails_by alarm) Alarm now (with_red practices alarm)))
