-- Which commands change neither the switches nor the safety rules.
use Rattle.std.proofs.Common.{◌≡◌, ℕ, List, Bool, Option, Some, None, Ok, Err, refl, arith}
use Rattle.arc_ids.specs.declared.named_id.PanelId.{PanelId}
use Rattle.arc_ids.specs.declared.named_id.ResourceId.{ResourceId}
use Rattle.arc_ids.specs.declared.named_id.ShiftId.{ShiftId}
use Rattle.arc_data.specs.declared.practice.PracticeChange.{PracticeChange}
use Rattle.arc_data.specs.declared.practice.PracticeConfig.{PracticeConfig}
use Rattle.arc_data.specs.declared.practice.Run.{Run}
use Rattle.arc_data.specs.declared.shift.Shift.{Shift}
use Rattle.arc_plain.specs.State.{Effect, Plain}
use Rattle.arc_plain.specs.Cluster.{left_by}
use Rattle.arc_plain.specs.Reads.{Telling, told_in}
use Rattle.arc_plain.specs.Panels.{add_panel, remove_panel}
use Rattle.arc_plain.specs.Resources.{registered}
use Rattle.arc_plain.specs.Controls.{create_control_panel, delete_control_panel}
use Rattle.arc_plain.specs.ZonalShifts.{cancel_zonal_shift, first_over, first_run_over, forgets, register_managed_resource, start_zonal_shift, update_zonal_shift, with_room}
use Rattle.arc_plain.specs.PracticeRuns.{cancel_practice_run, create_practice_configuration, delete_practice_configuration, end_autoshift, set_alarm_state, start_autoshift, start_practice_run, update_autoshift_configuration, update_practice_configuration}

-- the controls and the rules are those that were
pub record SeesSame (plain after : Plain) : Type 0 where
  pub controls : after.controls.panels.controls ≡ plain.controls.panels.controls
  pub rules : after.controls.rules.rules ≡ plain.controls.rules.rules

-- in the state that an effect leaves
abbrev pub LeavesSame : Plain → Effect → Type 0
LeavesSame plain effect = SeesSame plain (left_by plain effect)

pub told_same : (plain : Plain) (telling : Telling) → LeavesSame plain (told_in plain telling)
told_same plain (Ok answer) = record { controls = refl; rules = refl }
told_same plain (Err refusal) = record { controls = refl; rules = refl }

forgets_same : (plain : Plain) (shift : Option Shift) (run : Option Run) → SeesSame plain (forgets plain shift run)
forgets_same plain None None = record { controls = refl; rules = refl }
forgets_same plain (Some shift) None = record { controls = refl; rules = refl }
forgets_same plain None (Some run) = record { controls = refl; rules = refl }
forgets_same plain (Some shift) (Some run) = grind arith

room_same : (plain : Plain) → SeesSame plain (with_room plain)
room_same plain = grind (arith, forgets_same plain (first_over plain) (first_run_over plain))

pub create_control_panel-same : (plain : Plain) (name : List ℕ) → LeavesSame plain (create_control_panel plain name)
unfolding create_control_panel add_panel
create_control_panel-same plain name = grind arith

pub delete_control_panel-same : (plain : Plain) (panel : PanelId) → LeavesSame plain (delete_control_panel plain panel)
unfolding delete_control_panel remove_panel
delete_control_panel-same plain panel = grind arith

pub register_managed_resource-same : (plain : Plain) (name : List ℕ) (zones : List (List ℕ)) → LeavesSame plain (register_managed_resource plain name zones)
unfolding register_managed_resource registered
register_managed_resource-same plain name zones = grind arith

pub start_zonal_shift-same : (plain : Plain) (resource : ResourceId) (zone : List ℕ) (minutes : ℕ) (comment : List ℕ) → LeavesSame plain (start_zonal_shift plain resource zone minutes comment)
unfolding start_zonal_shift
start_zonal_shift-same plain resource zone minutes comment = grind (arith, room_same plain)

pub update_zonal_shift-same : (plain : Plain) (shift : ShiftId) (comment : Option (List ℕ)) (minutes : Option ℕ) → LeavesSame plain (update_zonal_shift plain shift comment minutes)
unfolding update_zonal_shift
update_zonal_shift-same plain shift comment minutes = grind arith

pub cancel_zonal_shift-same : (plain : Plain) (shift : ShiftId) → LeavesSame plain (cancel_zonal_shift plain shift)
unfolding cancel_zonal_shift
cancel_zonal_shift-same plain shift = grind arith

pub create_practice_configuration-same : (plain : Plain) (resource : ResourceId) (config : PracticeConfig) → LeavesSame plain (create_practice_configuration plain resource config)
unfolding create_practice_configuration
create_practice_configuration-same plain resource config = grind arith

pub update_practice_configuration-same : (plain : Plain) (resource : ResourceId) (change : PracticeChange) → LeavesSame plain (update_practice_configuration plain resource change)
unfolding update_practice_configuration
update_practice_configuration-same plain resource change = grind arith

pub delete_practice_configuration-same : (plain : Plain) (resource : ResourceId) → LeavesSame plain (delete_practice_configuration plain resource)
unfolding delete_practice_configuration
delete_practice_configuration-same plain resource = grind arith

pub start_practice_run-same : (plain : Plain) (resource : ResourceId) (zone : List ℕ) (comment : List ℕ) → LeavesSame plain (start_practice_run plain resource zone comment)
unfolding start_practice_run
start_practice_run-same plain resource zone comment = grind (arith, room_same plain)

pub cancel_practice_run-same : (plain : Plain) (shift : ShiftId) → LeavesSame plain (cancel_practice_run plain shift)
unfolding cancel_practice_run
cancel_practice_run-same plain shift = grind arith

pub update_autoshift_configuration-same : (plain : Plain) (resource : ResourceId) (enabled : Bool) → LeavesSame plain (update_autoshift_configuration plain resource enabled)
unfolding update_autoshift_configuration
update_autoshift_configuration-same plain resource enabled = grind arith

pub start_autoshift-same : (plain : Plain) (zone : List ℕ) → LeavesSame plain (start_autoshift plain zone)
unfolding start_autoshift
start_autoshift-same plain zone = grind arith

pub end_autoshift-same : (plain : Plain) (zone : List ℕ) → LeavesSame plain (end_autoshift plain zone)
unfolding end_autoshift
end_autoshift-same plain zone = grind arith

pub set_alarm_state-same : (plain : Plain) (alarm : List ℕ) (red : Bool) → LeavesSame plain (set_alarm_state plain alarm red)
unfolding set_alarm_state
set_alarm_state-same plain alarm red = grind arith
