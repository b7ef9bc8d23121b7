-- What becomes of a disk in a call of its node: the count of faults doesn't fall, and a quiet disk stays quiet.
use Rattle.std.proofs.Common.{◌≡◌, ◌<◌, ℕ, List, Option, None, true, false, inl, inr, refl, sym, ◌∙◌, ap, subst, arith}
use Rattle.std.specs.Prelude.{◌-◌, ◌^◌}
use Rattle.std.proofs.lemmas.Option.{none-some}
use Rattle.arc_data.specs.declared.record.Record.{Record}
use Rattle.arc_journal.specs.Runs.{IsRun, sooner_by}
use Rattle.arc_node.specs.Calls.{HandlesInRun}
use Rattle.arc_node.specs.declared.handle_end.HandleEnd.{HandleEnd}
use Rattle.arc_node.specs.declared.handle_end.HandleEnd.TheVariants as ends
use Rattle.arc_cluster.specs.Since.{IsQuiet, Since}

module _ {D : Type 0} (moment faults : D → ℕ) (stops_in : D → Option ℕ) (is_tame : D → Type 0) where
  pub since_same : (old new : D) → new ≡ old → Since faults stops_in is_tame old new
  since_same old new same =
      subst (Since faults stops_in is_tame old) (sym same) (record { later = omega arith; quiet = λ quiet. (quiet, refl) })

  -- one call behind another
  pub since_then : (old mid new : D) → Since faults stops_in is_tame old mid → Since faults stops_in is_tame mid new → Since faults stops_in is_tame old new
  since_then old mid new first second =
      let a = first.later in let b = second.later in
      record {
        later = omega arith;
        quiet = λ quiet. let m = first.quiet quiet in let n = second.quiet m.0 in (n.0, n.1 ∙ m.1);
      }

  -- a quiet disk makes no run that fails
  no_failure : (old new : D) (k : ℕ) → IsRun moment faults stops_in is_tame old new k true → IsQuiet faults stops_in is_tame old → ⊥
  no_failure old new k run quiet = none-some (k - 1) (sym quiet.no_stop ∙ run.chosen quiet.tame refl)

  still_quiet : (old new : D) (k : ℕ) → IsRun moment faults stops_in is_tame old new k false → IsQuiet faults stops_in is_tame old
      → IsQuiet faults stops_in is_tame new × (faults new ≡ faults old)
  still_quiet old new k run quiet =
      let same : faults new ≡ faults old = run.count.1 in
      let stop : stops_in new ≡ None = run.nearer ∙ ap (λ (s : Option ℕ). sooner_by k s) quiet.no_stop in
      (record { tame = run.tame quiet.tame; no_stop = stop; below = subst (λ n. n < 2 ^ 64 - 1) (sym same) quiet.below }, same)

  failed_run : (old new : D) (k : ℕ) → IsRun moment faults stops_in is_tame old new k true → Since faults stops_in is_tame old new
  failed_run old new k run = record { later = run.count.0; quiet = λ quiet. absurd (no_failure old new k run quiet) }

  good_run : (old new : D) (k : ℕ) → IsRun moment faults stops_in is_tame old new k false → Since faults stops_in is_tame old new
  good_run old new k run = record { later = run.count.0; quiet = λ quiet. still_quiet old new k run quiet }

  since_handled : (before after : List Record) (old new : D) (end : HandleEnd) → HandlesInRun moment faults stops_in is_tame before after old new end
      → Since faults stops_in is_tame old new
  since_handled before after old new (ends.Answered reply) (inl none) = since_same old new none.1
  since_handled before after old new (ends.Answered reply) (inr four) = good_run old new 4 four.1
  since_handled before after old new ends.Down (inl same) = since_same old new same
  since_handled before after old new ends.Down (inr run) = failed_run old new run.0 run.3
  since_handled before after old new ends.Memory run = good_run old new run.0 run.2

  -- one message more
  pub since_on : (first old new : D) (before after : List Record) (end : HandleEnd) → Since faults stops_in is_tame first old
      → HandlesInRun moment faults stops_in is_tame before after old new end → Since faults stops_in is_tame first new
  since_on first old new before after end so_far run = since_then first old new so_far (since_handled before after old new end run)
