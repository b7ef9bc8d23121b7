-- What a history in memory stands for, and what each of its calls makes of it.
use Rattle.std.specs.Prelude.{ℕ, ◌≡◌, ◌≢◌, ◌<◌, ◌≤◌, ◌+◌, List, [], ◌∷◌, ◌++◌, length, take, drop, vec_len, vec_capacity}
use Rattle.arc_bytes.specs.Counts.{next_count}
use Rattle.arc_disk.specs.Past.{Event, Past, standing, time_of}
use Rattle.arc_disk.specs.Past.Event.{Write, Sync, Crash}
use Rattle.arc_disk.specs.declared.event.Event as kept
use Rattle.arc_disk.specs.declared.event.Event.TheVariants as variant
use Rattle.arc_disk.specs.declared.history.History.TheInside.{Inside}
use Rattle.arc_disk.specs.declared.range.Range.{Range}

-- The events of a log that keeps the bytes of its writes one after another.
abbrev pub events_of : List kept.Event → List ℕ → List Event
events_of [] bytes = []
events_of (variant.Write time at len ∷ log) bytes = Write time at (take len bytes) ∷ events_of log (drop len bytes)
events_of (variant.Sync time ∷ log) bytes = Sync time ∷ events_of log bytes
events_of (variant.Crash time fill ∷ log) bytes = Crash time fill ∷ events_of log bytes

-- How many bytes the writes of a log have.
abbrev pub written_len : List kept.Event → ℕ
written_len [] = 0
written_len (variant.Write time at len ∷ log) = len + written_len log
written_len (variant.Sync time ∷ log) = written_len log
written_len (variant.Crash time fill ∷ log) = written_len log

-- The history that is kept so.
abbrev pub past_of : Inside → Past
past_of a = record { first = a.first.items; events = events_of a.log.items a.log_bytes.items; clock = a.clock }

-- None of these events came later.
abbrev pub IsInTime : ℕ → List Event → Type 0
IsInTime clock [] = Unit {0}
IsInTime clock (event ∷ events) = (time_of event ≤ clock) × IsInTime clock events

-- The log has the bytes of its writes and no others, what is kept beside it is what follows from it, and where a range
-- waits there is room for one event more.
pub record IsKept (a : Inside) : Type 0 where
  pub content : a.content.items ≡ (standing (past_of a)).content
  pub waiting : a.waiting.items ≡ (standing (past_of a)).waiting
  pub bytes : length a.log_bytes.items ≡ written_len a.log.items
  pub in_time : IsInTime a.clock (past_of a).events
  pub room : a.waiting.items ≢ [] → vec_len a.log < vec_capacity a.log

-- One device call later.
abbrev pub ticked : Past → Past
ticked past = record { first = past.first; events = past.events; clock = next_count past.clock }

-- With one event more.
abbrev pub grown : Past → Event → Past
grown past event = record { first = past.first; events = past.events ++ event ∷ []; clock = past.clock }

-- The second past where a range waits, and else the first.
abbrev pub if_waiting : List Range → Past → Past → Past
if_waiting [] idle busy = idle
if_waiting (range ∷ ranges) idle busy = busy

-- After a sync, which is no event where nothing waits.
abbrev pub synced : Past → Past
synced past = if_waiting (standing past).waiting past (grown past (Sync past.clock))

-- After a crash that leaves this byte in what waits.
abbrev pub crashed : ℕ → Past → Past
crashed fill past = if_waiting (standing past).waiting past (grown past (Crash past.clock fill))
