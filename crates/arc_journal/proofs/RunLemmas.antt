-- One run of device calls behind another.
use Rattle.std.proofs.Common.{ℕ, zero, suc, ◌≡◌, ◌≤◌, ◌-◌, ◌+◌, Bool, true, false, Option, None, Some, Result, Ok, Err, refl, sym, ◌∙◌, ap, subst, arith}
use Rattle.std.specs.Prelude.{unwrap_or}
use Rattle.arc_bytes.specs.Counts.{next_count}
use Rattle.arc_disk.specs.Calls.{Counted, IsCall, sooner}
use Rattle.arc_disk.specs.declared.disk.WriteEnd.{WriteEnd}
use Rattle.arc_disk.specs.declared.disk.WriteEnd.TheVariants.{Failed, Memory}
use Rattle.arc_journal.specs.Runs.{clock_after, sooner_by, NoStopWithin, IsRun, WritesInRun}

clock_behind : (m n moment : ℕ) → clock_after n (clock_after m moment) ≡ clock_after (m + n) moment
clock_behind m zero moment = let same : m ≡ m + 0 = omega arith in ap (λ (k : ℕ). clock_after k moment) same
clock_behind m (suc n) moment = let one_more : suc (m + n) ≡ m + suc n = omega arith in ap next_count (clock_behind m n moment) ∙ ap (λ (k : ℕ). clock_after k moment) one_more

sooner_behind : (m n : ℕ) (stop : Option ℕ) → sooner_by n (sooner_by m stop) ≡ sooner_by (m + n) stop
sooner_behind m n None = refl
sooner_behind m n (Some calls) = let same : calls - m - n ≡ calls - (m + n) = omega arith in ap (λ (k : ℕ). Some k) same

sooner_behind_none : (stop : Option ℕ) → stop ≡ sooner_by 0 stop
sooner_behind_none None = refl
sooner_behind_none (Some calls) = let same : calls ≡ calls - 0 = omega arith in ap (λ (k : ℕ). Some k) same

-- a stop that comes next, after calls that went well, was set behind these calls
stop_behind : (m n : ℕ) (stop : Option ℕ) → NoStopWithin m stop → 1 ≤ n → sooner_by m stop ≡ Some (n - 1) → stop ≡ Some (m + n - 1)
stop_behind m n None later some is = absurd (cc)
stop_behind m n (Some calls) later some is =
    let near : calls - m ≡ n - 1 = ap (λ (o : Option ℕ). unwrap_or o 0) is in
    let far : calls ≡ m + n - 1 = omega (arith, near, later, some) in ap (λ (k : ℕ). Some k) far

no_stop_behind : (m n : ℕ) (stop : Option ℕ) → NoStopWithin m stop → NoStopWithin n (sooner_by m stop) → NoStopWithin (m + n) stop
no_stop_behind m n None first second = tt
no_stop_behind m n (Some calls) first second = omega (arith, first, second)

sooner_by_one : (stop : Option ℕ) → sooner stop ≡ sooner_by 1 stop
sooner_by_one None = refl
sooner_by_one (Some calls) = refl

pub no_stop_next : (stop : Option ℕ) → (stop ≡ Some 0 → false ≡ true) → NoStopWithin 1 stop
no_stop_next None later = tt
no_stop_next (Some zero) later = absurd (cc (later refl))
no_stop_next (Some (suc calls)) later = omega arith

module _ {D : Type 0} (moment faults : D → ℕ) (stops_in : D → Option ℕ) (is_tame : D → Type 0) where
  pub run_behind : (old between new : D) (m n : ℕ) (failed : Bool) → IsRun moment faults stops_in is_tame old between m false
      → NoStopWithin m (stops_in old) → 1 ≤ n → IsRun moment faults stops_in is_tame between new n failed → IsRun moment faults stops_in is_tame old new (m + n) failed
  run_behind old between new m n failed first no_stop some second = record {
    later = omega (arith, first.later, second.later);
    clock = second.clock ∙ ap (λ (t : ℕ). clock_after n t) first.clock ∙ clock_behind m n (moment old);
    count = subst (λ (f : ℕ). Counted failed f (faults new)) first.count.1 second.count;
    nearer = second.nearer ∙ ap (λ (s : Option ℕ). sooner_by n s) first.nearer ∙ sooner_behind m n (stops_in old);
    tame = λ was. second.tame (first.tame was);
    chosen = λ was fails. stop_behind m n (stops_in old) no_stop some (sym first.nearer ∙ second.chosen (first.tame was) fails);
  }

  -- calls that all went well behind such calls
  pub run_well_behind : (old between new : D) (m n : ℕ) → IsRun moment faults stops_in is_tame old between m false
      → IsRun moment faults stops_in is_tame between new n false → IsRun moment faults stops_in is_tame old new (m + n) false
  run_well_behind old between new m n first second = record {
    later = omega (arith, first.later, second.later);
    clock = second.clock ∙ ap (λ (t : ℕ). clock_after n t) first.clock ∙ clock_behind m n (moment old);
    count = subst (λ (f : ℕ). Counted false f (faults new)) first.count.1 second.count;
    nearer = second.nearer ∙ ap (λ (s : Option ℕ). sooner_by n s) first.nearer ∙ sooner_behind m n (stops_in old);
    tame = λ was. second.tame (first.tame was);
    chosen = λ was fails. absurd (cc fails);
  }

  pub no_run : (disk : D) → IsRun moment faults stops_in is_tame disk disk 0 false
  no_run disk = record {
    later = omega arith;
    clock = refl;
    count = (omega arith, refl);
    nearer = sooner_behind_none (stops_in disk);
    tame = λ was. was;
    chosen = λ was fails. absurd (cc fails);
  }

  pub run_of_one : (old new : D) (failed : Bool) → IsCall moment faults stops_in is_tame old new failed → IsRun moment faults stops_in is_tame old new 1 failed
  run_of_one old new failed call = record {
    later = call.later;
    clock = call.clock;
    count = call.count;
    nearer = call.nearer ∙ sooner_by_one (stops_in old);
    tame = call.tame;
    chosen = call.chosen;
  }

  -- one call without failure
  pub well_first : (old new : D) → IsCall moment faults stops_in is_tame old new false → (stops_in old ≡ Some 0 → false ≡ true)
      → IsRun moment faults stops_in is_tame old new 1 false × NoStopWithin 1 (stops_in old)
  well_first old new call later = (run_of_one old new false call, no_stop_next (stops_in old) later)

  -- one call behind a run without failure
  pub one_behind : (old between new : D) (m : ℕ) (failed : Bool) → IsRun moment faults stops_in is_tame old between m false × NoStopWithin m (stops_in old)
      → IsCall moment faults stops_in is_tame between new failed → IsRun moment faults stops_in is_tame old new (m + 1) failed
  one_behind old between new m failed first call =
      let some : 1 ≤ 1 = omega arith in run_behind old between new m 1 failed first.0 first.1 some (run_of_one between new failed call)

  -- and one more without failure
  pub well_behind : (old between new : D) (m : ℕ) → IsRun moment faults stops_in is_tame old between m false × NoStopWithin m (stops_in old)
      → IsCall moment faults stops_in is_tame between new false → (stops_in between ≡ Some 0 → false ≡ true)
      → IsRun moment faults stops_in is_tame old new (m + 1) false × NoStopWithin (m + 1) (stops_in old)
  well_behind old between new m first call later = (
    one_behind old between new m false first call,
    no_stop_behind m 1 (stops_in old) first.1 (subst (NoStopWithin 1) first.0.nearer (no_stop_next (stops_in between) later)),
  )

  pub writes_behind : (old between new : D) (m n : ℕ) (result : Result Unit WriteEnd) → 1 ≤ n
      → IsRun moment faults stops_in is_tame old between m false × NoStopWithin m (stops_in old)
      → WritesInRun moment faults stops_in is_tame n between new result → WritesInRun moment faults stops_in is_tame (m + n) old new result
  writes_behind old between new m n (Ok _) some first second = (
    run_behind old between new m n false first.0 first.1 some second.0,
    no_stop_behind m n (stops_in old) first.1 (subst (NoStopWithin n) first.0.nearer second.1),
  )
  writes_behind old between new m n (Err Failed) some first (k, one, most, run) = (m + k, omega (arith, one), omega (arith, most), run_behind old between new m k true first.0 first.1 one run)
  writes_behind old between new m n (Err Memory) some first (k, one, most, run) = (m + k, omega (arith, one), omega (arith, most), run_behind old between new m k false first.0 first.1 one run)
