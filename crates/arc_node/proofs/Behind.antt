-- The device calls of one step behind those of another.
use Rattle.std.proofs.Common.{◌≡◌, ◌+◌, ℕ, Option, Some, None, Result, Ok, Err, true, arith, subst, sym}
use Rattle.std.specs.Prelude.{MatchResult}
use Rattle.arc_journal.specs.Runs.{NoStopWithin, OpensInRun}
use Rattle.arc_journal.specs.declared.end.JournalEnd.{JournalEnd}
use Rattle.arc_journal.specs.declared.end.JournalEnd.TheVariants as reading
use Rattle.arc_journal.proofs.RunLemmas.{no_run, run_behind, run_well_behind, writes_behind}
use Rattle.arc_node.specs.Calls.{StartsInRun}
use Rattle.arc_node.specs.declared.restart.Restart.{Restart}
use Rattle.arc_node.specs.declared.restart.Restart.TheVariants.{Up, Full, Disk, NotOurs, Rotten, Damaged, Memory}

no_stop_in_none : (stop : Option ℕ) → NoStopWithin 0 stop
no_stop_in_none None = tt
no_stop_in_none (Some calls) = omega arith

module _ {D : Type 0} (moment faults : D → ℕ) (stops_in : D → Option ℕ) (is_tame : D → Type 0) where
  -- a start that found no room made no call
  pub no_start : (old new : D) (count : ℕ) → new ≡ old → StartsInRun moment faults stops_in is_tame 0 old new (Full count)
  no_start old new count same =
      subst (λ (disk : D). StartsInRun moment faults stops_in is_tame 0 old disk (Full count)) (sym same)
      (no_run moment faults stops_in is_tame old, no_stop_in_none (stops_in old))

  -- a start behind the three calls that read the journal
  pub start_behind_reading : (old between new : D) (result : Restart) → OpensInRun moment faults stops_in is_tame 3 old between None
      → StartsInRun moment faults stops_in is_tame 0 between new result → StartsInRun moment faults stops_in is_tame 3 old new result
  start_behind_reading old between new (Up inc) first second = writes_behind moment faults stops_in is_tame old between new 3 4 (Ok tt) (omega arith) first second
  start_behind_reading old between new (Full count) first second = (run_well_behind moment faults stops_in is_tame old between new 3 0 first.0 second.0, first.1)
  start_behind_reading old between new Disk first (k, some, few, run) =
      (3 + k, omega arith, omega (arith, few), run_behind moment faults stops_in is_tame old between new 3 k true first.0 first.1 some run)
  start_behind_reading old between new (NotOurs place) first second = run_well_behind moment faults stops_in is_tame old between new 3 0 first.0 second
  start_behind_reading old between new (Rotten place stored computed) first second = run_well_behind moment faults stops_in is_tame old between new 3 0 first.0 second
  start_behind_reading old between new (Damaged place its found) first second = run_well_behind moment faults stops_in is_tame old between new 3 0 first.0 second
  start_behind_reading old between new Memory first (k, few, run) = (3 + k, omega (arith, few), run_well_behind moment faults stops_in is_tame old between new 3 k first.0 run)

  opening_behind : (old between new : D) (end : JournalEnd) → OpensInRun moment faults stops_in is_tame 2 old between None
      → OpensInRun moment faults stops_in is_tame 4 between new (Some end) → OpensInRun moment faults stops_in is_tame 6 old new (Some end)
  opening_behind old between new reading.Disk first (k, some, few, run) =
      (2 + k, omega arith, omega (arith, few), run_behind moment faults stops_in is_tame old between new 2 k true first.0 first.1 some run)
  opening_behind old between new (reading.NotOurs place) first second = run_well_behind moment faults stops_in is_tame old between new 2 4 first.0 second
  opening_behind old between new (reading.Rotten place stored computed) first second = run_well_behind moment faults stops_in is_tame old between new 2 4 first.0 second
  opening_behind old between new reading.Memory first (k, few, run) = (2 + k, omega (arith, few), run_well_behind moment faults stops_in is_tame old between new 2 k first.0 run)

  -- the first start behind the two calls that make the journal
  pub start_behind_making : {T : Type 0} (disk_in : T → D) (old between : D) (result : Result T (D × JournalEnd)) → OpensInRun moment faults stops_in is_tame 2 old between None
      → MatchResult result (λ n. OpensInRun moment faults stops_in is_tame 4 between (disk_in n) None) (λ e. OpensInRun moment faults stops_in is_tame 4 between e.0 (Some e.1))
      → MatchResult result (λ n. OpensInRun moment faults stops_in is_tame 6 old (disk_in n) None) (λ e. OpensInRun moment faults stops_in is_tame 6 old e.0 (Some e.1))
  start_behind_making disk_in old between (Ok n) first second = writes_behind moment faults stops_in is_tame old between (disk_in n) 2 4 (Ok tt) (omega arith) first second
  start_behind_making disk_in old between (Err e) first second = opening_behind old between e.0 e.1 first second
