-- Which device calls of a disk in memory fail.
use Rattle.std.specs.Prelude.{ℕ, zero, suc, ◌-◌, ◌==◌, Bool, Option, None, Some, if◌then◌else◌}
use Rattle.std.specs.List.{list_any}
use Rattle.arc_bytes.specs.Counts.{next_count}
use Rattle.arc_disk.specs.declared.schedule.Arming.{Arming}
use Rattle.arc_disk.specs.declared.schedule.Arming.TheVariants.{Unarmed, Armed, Stopped}
use Rattle.arc_disk.specs.declared.schedule.Turn.{Turn}
use Rattle.arc_disk.specs.declared.schedule.Turn.TheVariants.{Goes, Stops, Fails}
use Rattle.arc_disk.specs.declared.schedule.Schedule.{Schedule}

-- In how many device calls the disk stops.
abbrev pub stops_in_of : Arming → Option ℕ
stops_in_of Unarmed = None
stops_in_of (Armed calls fill) = Some calls
stops_in_of (Stopped fill) = Some 0

-- The byte that a crash leaves in what waits: that of the last arming, and 0 without one.
abbrev pub fill_of : Arming → ℕ
fill_of Unarmed = 0
fill_of (Armed calls fill) = fill
fill_of (Stopped fill) = fill

-- One device call later.
abbrev pub nearer : Arming → Arming
nearer Unarmed = Unarmed
nearer (Armed calls fill) = Armed (calls - 1) fill
nearer (Stopped fill) = Stopped fill

-- What becomes of a call, by whether it was chosen to fail.
abbrev pub due_by : Arming → Bool → Turn
due_by (Armed zero fill) chosen = Stops
due_by (Armed (suc calls) fill) chosen = if chosen then Fails else Goes
due_by Unarmed chosen = if chosen then Fails else Goes
due_by (Stopped fill) chosen = Fails

-- What becomes of the device call with this number.
abbrev pub due : Schedule → ℕ → Turn
due s call = due_by s.arming (list_any (λ chosen. chosen == call) s.failing.items)

-- The count of faults after a call of which this became.
abbrev pub counted : Turn → ℕ → ℕ
counted Goes faults = faults
counted Stops faults = faults
counted Fails faults = next_count faults

-- After a call of which this became. A stop is counted when it has come.
abbrev pub after_turn : Schedule → Turn → Schedule
after_turn s turn = record s { arming = nearer s.arming; faults = counted turn s.faults }

-- After the disk stopped.
abbrev pub after_stop : Schedule → Schedule
after_stop s = record s { arming = Stopped (fill_of s.arming); faults = next_count s.faults }
