-- What a disk in memory tells, and what each of its calls makes of it.
use Rattle.std.specs.Prelude.{ℕ, ◌≡◌, Bool, true, false, Option, None, List, [], Result, Ok, Err, IsErr}
use Rattle.arc_disk.specs.Calls.{has_failed}
use Rattle.arc_disk.specs.Past.{standing, MayLeave, LeftSince}
use Rattle.arc_disk.specs.Past.Event.{Write}
use Rattle.arc_disk.specs.History.{ticked, grown, synced, crashed}
use Rattle.arc_disk.specs.Schedule.{due, after_turn, after_stop, stops_in_of, fill_of}
use Rattle.arc_disk.specs.declared.disk.WriteEnd.{WriteEnd}
use Rattle.arc_disk.specs.declared.disk.WriteEnd.TheVariants as ends
use Rattle.arc_disk.specs.declared.memory_disk.MemoryDisk.{MemoryDisk}
use Rattle.arc_disk.specs.declared.schedule.Arming.TheVariants.{Unarmed, Armed}
use Rattle.arc_disk.specs.declared.schedule.Turn.{Turn}
use Rattle.arc_disk.specs.declared.schedule.Turn.TheVariants.{Goes, Stops, Fails}

-- What a read gives.
abbrev pub content_of : MemoryDisk → List ℕ
content_of d = (standing d.history).content

-- What a crash at this moment may leave: any bytes in the ranges that were written and not synced.
abbrev pub may_leave_of : MemoryDisk → List ℕ → Type 0
may_leave_of d image = MayLeave (standing d.history) image

-- What a crash at some moment from that one on might have left.
abbrev pub left_since_of : MemoryDisk → ℕ → List ℕ → Type 0
left_since_of d t image = LeftSince d.history t image

-- How many device calls there were.
abbrev pub moment_of : MemoryDisk → ℕ
moment_of d = d.history.clock

-- How often it has failed.
abbrev pub faults_of : MemoryDisk → ℕ
faults_of d = d.schedule.faults

-- In how many device calls it stops, where a stop is set.
abbrev pub disk_stops_in : MemoryDisk → Option ℕ
disk_stops_in d = stops_in_of d.schedule.arming

-- No call was chosen to fail.
abbrev pub NoneFails : MemoryDisk → Type 0
NoneFails d = d.schedule.failing.items ≡ []

-- What becomes of the next device call.
abbrev pub next_turn : MemoryDisk → Turn
next_turn d = due d.schedule d.history.clock

-- A call of which this becomes fails.
abbrev pub is_failure : Turn → Bool
is_failure Goes = false
is_failure Stops = true
is_failure Fails = true

-- After a device call began.
abbrev pub begun : MemoryDisk → MemoryDisk
begun d = record { history = ticked d.history; schedule = after_turn d.schedule (next_turn d) }

-- The disk stopped where this became of the call.
abbrev pub stopped_at : Turn → MemoryDisk → MemoryDisk
stopped_at Goes d = d
stopped_at Fails d = d
stopped_at Stops d = record { history = d.history; schedule = after_stop d.schedule }

-- After a device call that changes no byte.
abbrev pub after_idle : MemoryDisk → MemoryDisk
after_idle d = stopped_at (next_turn d) (begun d)

-- the numbers of the calls that are to fail
abbrev pub failing_of : MemoryDisk → List ℕ
failing_of d = d.schedule.failing.items

-- No device call was made yet, no stop is set, and the calls with these numbers are to fail.
pub record IsUnused (d : MemoryDisk) (failing : List ℕ) : Type 0 where
  pub clock : moment_of d ≡ 0
  pub count : faults_of d ≡ 0
  pub stop : disk_stops_in d ≡ None
  pub chosen : failing_of d ≡ failing

-- What waited was synced where this became of the call.
abbrev pub synced_at : Turn → MemoryDisk → MemoryDisk
synced_at Goes d = record { history = synced d.history; schedule = d.schedule }
synced_at Stops d = d
synced_at Fails d = d

-- After a sync. One that fails syncs nothing.
abbrev pub after_sync : MemoryDisk → MemoryDisk
after_sync d = synced_at (next_turn d) (after_idle d)

-- With one write more, which waits for a sync.
abbrev pub with_write : MemoryDisk → ℕ → List ℕ → MemoryDisk
with_write d at bytes = record { history = grown d.history (Write d.history.clock at bytes); schedule = d.schedule }

-- After a write that failed. In a stop it was written, and later it changes nothing.
abbrev pub after_failed_write : Turn → MemoryDisk → ℕ → List ℕ → MemoryDisk
after_failed_write Stops d at bytes = stopped_at Stops (with_write d at bytes)
after_failed_write Fails d at bytes = d
after_failed_write Goes d at bytes = d

-- After a write, by its answer.
abbrev pub after_write : MemoryDisk → Result Unit WriteEnd → ℕ → List ℕ → MemoryDisk
after_write d (Ok _) at bytes = with_write (begun d) at bytes
after_write d (Err ends.Failed) at bytes = after_failed_write (next_turn d) (begun d) at bytes
after_write d (Err ends.Memory) at bytes = begun d

-- The answers of a write of which this becomes. Want of memory comes before a stop.
abbrev pub IsAnswerOf : Turn → Result Unit WriteEnd → Type 0
IsAnswerOf Goes result = has_failed result ≡ false
IsAnswerOf Stops result = IsErr result
IsAnswerOf Fails result = result ≡ Err ends.Failed

-- After a stop was set.
abbrev pub after_arm : MemoryDisk → ℕ → ℕ → MemoryDisk
after_arm d calls fill = record { history = d.history; schedule = record d.schedule { arming = Armed calls fill } }

-- After a crash: the byte of the last arming, and 0 without one, stands in each range that waited.
abbrev pub after_crash : MemoryDisk → MemoryDisk
after_crash d = record { history = crashed (fill_of d.schedule.arming) d.history; schedule = record d.schedule { arming = Unarmed } }
