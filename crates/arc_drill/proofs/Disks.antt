-- What becomes of a disk in a call of its node: the count of faults doesn't fall, and a quiet disk stays quiet.
use Rattle.std.proofs.Common.{◌≡◌, ℕ, ◌<◌, ◌≤◌, ◌+◌, refl, sym, ap, ◌∙◌, subst, Bool, true, false, Option, Some, None, List, arith, inl, inr}
use Rattle.std.specs.Prelude.{◌-◌, ◌^◌}
use Rattle.std.proofs.lemmas.Option.{none-some}
use Rattle.arc_bytes.specs.Counts.{HasRisen}
use Rattle.arc_data.specs.declared.record.Record.{Record}
use Rattle.arc_disk.specs.Calls.{IsNoCall}
use Rattle.arc_journal.specs.Runs.{IsRun, OpensInRun, sooner_by}
use Rattle.arc_journal.specs.declared.end.JournalEnd.{JournalEnd}
use Rattle.arc_journal.specs.declared.end.JournalEnd.TheVariants as opening
use Rattle.arc_node.specs.Calls.{HandlesInRun, StartsInRun}
use Rattle.arc_node.specs.declared.handle_end.HandleEnd.{HandleEnd}
use Rattle.arc_node.specs.declared.handle_end.HandleEnd.TheVariants as ends
use Rattle.arc_node.specs.declared.restart.Restart.{Restart}
use Rattle.arc_node.specs.declared.restart.Restart.TheVariants as starts
use Rattle.arc_drill.specs.Since.{IsQuiet, Since}

-- a count that rose before has risen still
pub risen_later : (first now later : ℕ) → HasRisen first now → now ≤ later → HasRisen first later
risen_later first now later risen le = omega arith

-- a count that rose later has risen since before
pub risen_since : (first now later : ℕ) → first ≤ now → HasRisen now later → HasRisen first later
risen_since first now later le risen = omega arith

module _ {D : Type 0} (moment faults : D → ℕ) (stops_in : D → Option ℕ) (is_tame : D → Type 0) where
  pub since_same : (old new : D) → new ≡ old → Since faults stops_in is_tame old new
  since_same old new same =
      subst (Since faults stops_in is_tame old) (sym same) (record { later = omega arith; quiet = λ quiet. (quiet, refl) })

  pub since_then : (old mid new : D) → Since faults stops_in is_tame old mid → Since faults stops_in is_tame mid new → Since faults stops_in is_tame old new
  since_then old mid new first second =
      let a = first.later in let b = second.later in
      record {
        later = omega arith;
        quiet = λ quiet. let m = first.quiet quiet in let n = second.quiet m.0 in (n.0, n.1 ∙ m.1);
      }

  -- a quiet disk makes no run that fails
  no_failure : (old new : D) (k : ℕ) → IsRun moment faults stops_in is_tame old new k true → IsQuiet faults stops_in is_tame old → ⊥
  no_failure old new k run quiet = none-some (k - 1) (sym quiet.no_stop ∙ run.chosen quiet.tame refl)

  still_quiet : (old new : D) (k : ℕ) → IsRun moment faults stops_in is_tame old new k false → IsQuiet faults stops_in is_tame old
      → IsQuiet faults stops_in is_tame new × (faults new ≡ faults old)
  still_quiet old new k run quiet =
      let same : faults new ≡ faults old = run.count.1 in
      let stop : stops_in new ≡ None = run.nearer ∙ ap (λ (s : Option ℕ). sooner_by k s) quiet.no_stop in
      (record { tame = run.tame quiet.tame; no_stop = stop; below = subst (λ n. n < 2 ^ 64 - 1) (sym same) quiet.below }, same)

  pub since_run : (old new : D) (k : ℕ) (failed : Bool) → IsRun moment faults stops_in is_tame old new k failed → Since faults stops_in is_tame old new
  since_run old new k true run = record { later = run.count.0; quiet = λ quiet. absurd (no_failure old new k run quiet) }
  since_run old new k false run = record { later = run.count.0; quiet = λ quiet. still_quiet old new k run quiet }

  pub since_crash : (old new : D) → IsNoCall moment faults is_tame old new → stops_in new ≡ None → Since faults stops_in is_tame old new
  since_crash old new call stop =
      let same = call.count in
      record {
        later = omega arith;
        quiet = λ quiet. (record { tame = call.tame quiet.tame; no_stop = stop; below = subst (λ n. n < 2 ^ 64 - 1) (sym same) quiet.below }, same);
      }

  pub since_handled : (before after : List Record) (old new : D) (end : HandleEnd) → HandlesInRun moment faults stops_in is_tame before after old new end
      → Since faults stops_in is_tame old new
  since_handled before after old new (ends.Answered reply) (inl none) = since_same old new none.1
  since_handled before after old new (ends.Answered reply) (inr four) = since_run old new 4 false four.1
  since_handled before after old new ends.Down (inl same) = since_same old new same
  since_handled before after old new ends.Down (inr run) = since_run old new run.0 true run.3
  since_handled before after old new ends.Memory run = since_run old new run.0 false run.2

  pub since_started : (n : ℕ) (old new : D) (end : Restart) → StartsInRun moment faults stops_in is_tame n old new end → Since faults stops_in is_tame old new
  since_started n old new (starts.Up inc) run = since_run old new (n + 4) false run.0
  since_started n old new (starts.Full count) run = since_run old new n false run.0
  since_started n old new starts.Disk run = since_run old new run.0 true run.3
  since_started n old new (starts.NotOurs place) run = since_run old new n false run
  since_started n old new (starts.Rotten place stored computed) run = since_run old new n false run
  since_started n old new (starts.Damaged place its found) run = since_run old new n false run
  since_started n old new starts.Memory run = since_run old new run.0 false run.2

  pub since_opened : (n : ℕ) (old new : D) (end : Option JournalEnd) → OpensInRun moment faults stops_in is_tame n old new end → Since faults stops_in is_tame old new
  since_opened n old new None run = since_run old new n false run.0
  since_opened n old new (Some (opening.NotOurs place)) run = since_run old new n false run
  since_opened n old new (Some (opening.Rotten place stored computed)) run = since_run old new n false run
  since_opened n old new (Some opening.Disk) run = since_run old new run.0 true run.3
  since_opened n old new (Some opening.Memory) run = since_run old new run.0 false run.2
