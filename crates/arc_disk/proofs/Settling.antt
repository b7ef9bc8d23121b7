-- What a sync and a crash make of a past.
use Rattle.std.proofs.Common.{◌≡◌, ◌≤◌, ℕ, List, [], ◌∷◌, refl, sym, ◌∙◌, ap, subst, arith}
use Rattle.arc_bytes.specs.Counts.{next_count}
use Rattle.arc_disk.specs.Disk.{Only}
use Rattle.arc_disk.specs.History.{IsInTime, ticked, grown, synced, crashed, if_waiting}
use Rattle.arc_disk.specs.Laws.{reads_as_left_in_memory}
use Rattle.arc_disk.specs.Past.{Past, Standing, at_rest, all_filled, standing, IsTorn, MayLeave}
use Rattle.arc_disk.specs.Past.Event.{Sync, Crash}
use Rattle.arc_disk.specs.declared.range.Range.{Range}
use Rattle.arc_disk.proofs.Elapsing.{Goes_on, elapses_event, elapses_idle}
use Rattle.arc_disk.proofs.Events.{after_all_more}
use Rattle.arc_disk.proofs.Filled.{may_fill}

-- what holds whether or not a range waits
in_both_states : (P : Past → Type 0) (ranges : List Range) (idle busy : Past) → (ranges ≡ [] → P idle) → P busy → P (if_waiting ranges idle busy)
in_both_states P [] idle busy none some = none refl
in_both_states P (r ∷ ranges) idle busy none some = some

-- where nothing waits, a crash leaves what a read gives
none_waits : (past : Past) → (standing past).waiting ≡ [] → Only (standing past).content (λ image. MayLeave (standing past) image)
none_waits past none image left =
    subst (λ (ranges : List Range). IsTorn ranges (standing past).settled image) none left
    ∙ sym (subst (λ (ranges : List Range). IsTorn ranges (standing past).settled (standing past).content) none (reads_as_left_in_memory past))

-- a crash leaves what a read gives, which is this
pub record IsSettledAt (content : List ℕ) (old new : Past) : Type 0 where
  pub reads : (standing new).content ≡ content
  pub only : Only content (λ image. MayLeave (standing new) image)
  pub time : Goes_on old new

settled_so : (content : List ℕ) (old new : Past) → standing new ≡ at_rest content → Goes_on old new → IsSettledAt content old new
settled_so content old new stands time = record {
  reads = ap (λ (s : Standing). s.content) stands;
  only = λ image left. subst (λ (s : Standing). MayLeave s image) stands left;
  time = time;
}

module _ (old : Past) (in_time : IsInTime old.clock old.events) where
  pub sync_settles : old.clock ≤ next_count old.clock → IsSettledAt (standing old).content old (synced (ticked old))
  sync_settles later =
      in_both_states (IsSettledAt (standing old).content old) (standing old).waiting (ticked old) (grown (ticked old) (Sync (next_count old.clock)))
      (λ none. record { reads = refl; only = none_waits old none; time = elapses_idle old in_time (next_count old.clock) later })
      (settled_so (standing old).content old (grown (ticked old) (Sync (next_count old.clock))) (after_all_more (at_rest old.first) old.events (Sync (next_count old.clock)))
      (elapses_event old in_time (next_count old.clock) later (Sync (next_count old.clock)) refl))

  -- after a crash the disk reads as something that the crash might have left
  pub crash_settles : (fill : ℕ) → (content : List ℕ) × MayLeave (standing old) content × IsSettledAt content old (crashed fill old)
  crash_settles fill =
      in_both_states (λ new. (content : List ℕ) × MayLeave (standing old) content × IsSettledAt content old new) (standing old).waiting old (grown old (Crash old.clock fill))
      (λ none. ((standing old).content, reads_as_left_in_memory old, record { reads = refl; only = none_waits old none; time = elapses_idle old in_time old.clock (omega arith) }))
      (let content = all_filled fill (standing old).waiting (standing old).content in (
        content,
        may_fill fill old,
        settled_so content old (grown old (Crash old.clock fill)) (after_all_more (at_rest old.first) old.events (Crash old.clock fill))
            (elapses_event old in_time old.clock (omega arith) (Crash old.clock fill) refl),
      ))
