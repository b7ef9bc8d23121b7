-- The members of operations on resources, shifts, practice runs, autoshifts and alarms.
use Rattle.std.specs.Prelude.{ℕ, List, [], codes, Ok}
use Rattle.std.specs.Str.{bytes_eq}
use Rattle.arc_window.specs.declared.weekly.Window.{Window}
use Rattle.arc_data.specs.declared.op.Op.{Op}
use Rattle.arc_data.specs.declared.op.Op.TheVariants.{RegisterManagedResource, GetManagedResource, ListManagedResources, StartZonalShift, UpdateZonalShift, CancelZonalShift, ListZonalShifts, CreatePracticeRunConfiguration, UpdatePracticeRunConfiguration, DeletePracticeRunConfiguration, StartPracticeRun, CancelPracticeRun, UpdateZonalAutoshiftConfiguration, StartAutoshift, EndAutoshift, SetAlarmState}
use Rattle.arc_data.specs.declared.practice.PracticeConfig.{PracticeConfig}
use Rattle.arc_data.specs.declared.practice.PracticeChange.{PracticeChange}
use Rattle.arc_members.specs.Lists.{list_in, set_in}
use Rattle.arc_members.specs.Members.{defaulted, optional, required}
use Rattle.arc_members.specs.Reading.{Reading, ◌>>=◌, object_in}
use Rattle.arc_members.specs.Values.{comment_in, date_in, enabled_in, expiry_in, name_in, red_in, resource_in, shift_in, status_in, window_in, zone_in}

-- ---- resources

-- the zones of a resource
unfoldable pub zones_in : Reading (List (List ℕ))
zones_in d = set_in bytes_eq 1 6 zone_in d

unfoldable pub register_managed_resource : Reading Op
register_managed_resource d = do
  name ← required name_in (codes "name") d
  zones ← required zones_in (codes "availabilityZones") d
  Ok (RegisterManagedResource name zones)

unfoldable pub get_managed_resource : Reading Op
get_managed_resource d = do
  resource ← required resource_in (codes "resourceIdentifier") d
  Ok (GetManagedResource resource)

abbrev pub list_managed_resources : Reading Op
list_managed_resources d = Ok ListManagedResources

-- ---- shifts

unfoldable pub start_zonal_shift : Reading Op
start_zonal_shift d = do
  resource ← required resource_in (codes "resourceIdentifier") d
  zone ← required zone_in (codes "awayFrom") d
  minutes ← required expiry_in (codes "expiresIn") d
  comment ← required comment_in (codes "comment") d
  Ok (StartZonalShift resource zone minutes comment)

unfoldable pub update_zonal_shift : Reading Op
update_zonal_shift d = do
  shift ← required shift_in (codes "zonalShiftId") d
  comment ← optional comment_in (codes "comment") d
  minutes ← optional expiry_in (codes "expiresIn") d
  Ok (UpdateZonalShift shift comment minutes)

unfoldable pub cancel_zonal_shift : Reading Op
cancel_zonal_shift d = do
  shift ← required shift_in (codes "zonalShiftId") d
  Ok (CancelZonalShift shift)

unfoldable pub list_zonal_shifts : Reading Op
list_zonal_shifts d = do
  resource ← optional resource_in (codes "resourceIdentifier") d
  status ← optional status_in (codes "status") d
  Ok (ListZonalShifts resource status)

-- ---- practice runs

-- an alarm is an object that has its name
unfoldable pub alarm_members : Reading (List ℕ)
alarm_members d = required name_in (codes "alarmIdentifier") d

unfoldable pub alarm_in : Reading (List ℕ)
alarm_in d = object_in d >>= alarm_members

unfoldable pub dates_in : Reading (List ℕ)
dates_in d = list_in 0 15 date_in d

unfoldable pub windows_in : Reading (List Window)
windows_in d = list_in 0 15 window_in d

unfoldable pub blocking_in : Reading (List (List ℕ))
blocking_in d = list_in 0 4 alarm_in d

unfoldable pub outcome_in : Reading (List (List ℕ))
outcome_in d = list_in 1 4 alarm_in d

unfoldable pub config_given : Reading PracticeConfig
config_given d = do
  dates ← defaulted [] dates_in (codes "blockedDates") d
  windows ← defaulted [] windows_in (codes "blockedWindows") d
  blocking ← defaulted [] blocking_in (codes "blockingAlarms") d
  outcome ← required outcome_in (codes "outcomeAlarms") d
  Ok (record { blocked_dates = dates; blocked_windows = windows; blocking_alarms = blocking; outcome_alarms = outcome })

unfoldable pub create_practice_run_configuration : Reading Op
create_practice_run_configuration d = do
  resource ← required resource_in (codes "resourceIdentifier") d
  config ← config_given d
  Ok (CreatePracticeRunConfiguration resource config)

unfoldable pub change_given : Reading PracticeChange
change_given d = do
  dates ← optional dates_in (codes "blockedDates") d
  windows ← optional windows_in (codes "blockedWindows") d
  blocking ← optional blocking_in (codes "blockingAlarms") d
  outcome ← optional outcome_in (codes "outcomeAlarms") d
  Ok (record { blocked_dates = dates; blocked_windows = windows; blocking_alarms = blocking; outcome_alarms = outcome })

unfoldable pub update_practice_run_configuration : Reading Op
update_practice_run_configuration d = do
  resource ← required resource_in (codes "resourceIdentifier") d
  change ← change_given d
  Ok (UpdatePracticeRunConfiguration resource change)

unfoldable pub delete_practice_run_configuration : Reading Op
delete_practice_run_configuration d = do
  resource ← required resource_in (codes "resourceIdentifier") d
  Ok (DeletePracticeRunConfiguration resource)

unfoldable pub start_practice_run : Reading Op
start_practice_run d = do
  resource ← required resource_in (codes "resourceIdentifier") d
  zone ← required zone_in (codes "awayFrom") d
  comment ← required comment_in (codes "comment") d
  Ok (StartPracticeRun resource zone comment)

unfoldable pub cancel_practice_run : Reading Op
cancel_practice_run d = do
  shift ← required shift_in (codes "zonalShiftId") d
  Ok (CancelPracticeRun shift)

-- ---- autoshifts and alarms

unfoldable pub update_zonal_autoshift_configuration : Reading Op
update_zonal_autoshift_configuration d = do
  resource ← required resource_in (codes "resourceIdentifier") d
  enabled ← required enabled_in (codes "zonalAutoshiftStatus") d
  Ok (UpdateZonalAutoshiftConfiguration resource enabled)

unfoldable pub start_autoshift : Reading Op
start_autoshift d = do
  zone ← required zone_in (codes "awayFrom") d
  Ok (StartAutoshift zone)

unfoldable pub end_autoshift : Reading Op
end_autoshift d = do
  zone ← required zone_in (codes "awayFrom") d
  Ok (EndAutoshift zone)

unfoldable pub set_alarm_state : Reading Op
set_alarm_state d = do
  alarm ← required name_in (codes "alarmIdentifier") d
  red ← required red_in (codes "state") d
  Ok (SetAlarmState alarm red)
