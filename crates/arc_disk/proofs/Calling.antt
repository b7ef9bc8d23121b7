-- The clock, the count and the stop of a disk in memory go on from one device call to the next.
use Rattle.std.proofs.Common.{◌≡◌, ◌≤◌, ◌==◌, ℕ, zero, suc, Bool, true, false, IsTrue, Some, List, [], refl, sym, ap, subst, arith}
use Rattle.std.specs.List.{list_any}
use Rattle.arc_bytes.specs.Counts.{next_count}
use Rattle.arc_disk.specs.Calls.{Counted, IsCall, sooner}
use Rattle.arc_disk.specs.Disk.{Elapses}
use Rattle.arc_disk.specs.MemoryDisk.{NoneFails, disk_stops_in, faults_of, is_failure, left_since_of, may_leave_of, moment_of}
use Rattle.arc_disk.specs.Past.{Past}
use Rattle.arc_disk.specs.Schedule.{stops_in_of, nearer, due_by, due, after_turn, after_stop}
use Rattle.arc_disk.specs.declared.memory_disk.MemoryDisk.{MemoryDisk}
use Rattle.arc_disk.specs.declared.schedule.Arming.{Arming}
use Rattle.arc_disk.specs.declared.schedule.Arming.TheVariants.{Unarmed, Armed, Stopped}
use Rattle.arc_disk.specs.declared.schedule.Schedule.{Schedule}
use Rattle.arc_disk.specs.declared.schedule.Turn.{Turn}
use Rattle.arc_disk.specs.declared.schedule.Turn.TheVariants.{Goes, Stops, Fails}
use Rattle.arc_disk.proofs.Elapsing.{Goes_on}

-- time goes on over the disk as it does over its past
pub time_passes : (old new : MemoryDisk) (past : Past) → new.history ≡ past → Goes_on old.history past → Elapses moment_of may_leave_of left_since_of old new
time_passes old new past is time =
    let here = subst (λ (p : Past). Goes_on old.history p) (sym is) time in
    record { nothing_else = here.nothing_else; nothing_lost = here.nothing_lost }

-- one device call comes nearer to the stop
nearer_stop : (arming : Arming) → stops_in_of (nearer arming) ≡ sooner (stops_in_of arming)
nearer_stop Unarmed = refl
nearer_stop (Armed calls fill) = refl
nearer_stop (Stopped fill) = refl

-- where none is chosen, a call fails at the stop alone
fails_at_stop : (arming : Arming) (chosen : Bool) → chosen ≡ false → IsTrue (is_failure (due_by arming chosen)) → stops_in_of arming ≡ Some 0
fails_at_stop Unarmed true none fails = cc
fails_at_stop Unarmed false none fails = cc
fails_at_stop (Armed zero fill) chosen none fails = refl
fails_at_stop (Armed (suc calls) fill) true none fails = cc
fails_at_stop (Armed (suc calls) fill) false none fails = cc
fails_at_stop (Stopped fill) chosen none fails = refl

stops_at_stop : (arming : Arming) (chosen : Bool) → due_by arming chosen ≡ Stops → sooner (stops_in_of arming) ≡ Some 0
stops_at_stop Unarmed true stops = cc
stops_at_stop Unarmed false stops = cc
stops_at_stop (Armed zero fill) chosen stops = refl
stops_at_stop (Armed (suc calls) fill) true stops = cc
stops_at_stop (Armed (suc calls) fill) false stops = cc
stops_at_stop (Stopped fill) chosen stops = refl

-- what a call, which failed or didn't, makes of the schedule
pub record Schedules (old new : Schedule) (failed : Bool) : Type 0 where
  pub count : Counted failed old.faults new.faults
  pub nearer : stops_in_of new.arming ≡ sooner (stops_in_of old.arming)
  pub tame : old.failing.items ≡ [] → new.failing.items ≡ []
  pub chosen : old.failing.items ≡ [] → IsTrue failed → stops_in_of old.arming ≡ Some 0

module _ (s : Schedule) where
  chosen_where : (call : ℕ) (turn : Turn) → due s call ≡ turn → IsTrue (is_failure turn) → s.failing.items ≡ [] → stops_in_of s.arming ≡ Some 0
  chosen_where call turn is fails none =
      fails_at_stop s.arming (list_any (λ chosen. chosen == call) s.failing.items) (ap (λ (xs : List ℕ). list_any (λ chosen. chosen == call) xs) none)
      (subst (λ (t : Turn). IsTrue (is_failure t)) (sym is) fails)

  pub goes : Schedules s (after_turn s Goes) false
  goes = record { count = (omega arith, refl); nearer = nearer_stop s.arming; tame = λ none. none; chosen = λ none fails. cc }

  -- at a stop that didn't come for want of memory
  pub waits : Schedules s (after_turn s Stops) false
  waits = record { count = (omega arith, refl); nearer = nearer_stop s.arming; tame = λ none. none; chosen = λ none fails. cc }

  pub fails : (call : ℕ) → s.faults ≤ next_count s.faults → due s call ≡ Fails → Schedules s (after_turn s Fails) true
  fails call later is = record { count = (later, omega arith); nearer = nearer_stop s.arming; tame = λ none. none; chosen = λ none yes. chosen_where call Fails is yes none }

  pub stops : (call : ℕ) → s.faults ≤ next_count s.faults → due s call ≡ Stops → Schedules s (after_stop (after_turn s Stops)) true
  stops call later is = record {
    count = (later, omega arith);
    nearer = sym (stops_at_stop s.arming (list_any (λ chosen. chosen == call) s.failing.items) is);
    tame = λ none. none;
    chosen = λ none yes. chosen_where call Stops is yes none;
  }

-- a device call, by what it makes of the schedule
pub called : (old new : MemoryDisk) (failed : Bool) (s : Schedule) → new.schedule ≡ s → Schedules old.schedule s failed → moment_of new ≡ next_count (moment_of old) → moment_of old ≤ next_count (moment_of old)
    → IsCall moment_of faults_of disk_stops_in NoneFails old new failed
called old new failed s is made clock later =
    let here = subst (λ (t : Schedule). Schedules old.schedule t failed) (sym is) made in
    record { later = omega (arith, clock, later); clock = clock; count = here.count; nearer = here.nearer; tame = here.tame; chosen = here.chosen }
