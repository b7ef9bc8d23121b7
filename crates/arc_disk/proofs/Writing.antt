-- What a write makes of a past.
use Rattle.std.proofs.Common.{◌≡◌, ◌≤◌, ℕ, List, [], ◌∷◌, ◌++◌, length, refl, sym, ◌∙◌, ap, subst}
use Rattle.arc_bytes.specs.Counts.{next_count}
use Rattle.arc_disk.specs.Disk.{TearsOnly, Torn, written}
use Rattle.arc_disk.specs.History.{IsInTime, ticked, grown}
use Rattle.arc_disk.specs.Laws.{written_is_torn}
use Rattle.arc_disk.specs.Past.{Past, Standing, at_rest, standing, IsTorn, MayLeave}
use Rattle.arc_disk.specs.Past.Event.{Write}
use Rattle.arc_disk.specs.declared.range.Range.{Range}
use Rattle.arc_disk.proofs.Elapsing.{Goes_on, elapses_event}
use Rattle.arc_disk.proofs.Events.{after_all_more, after_write}

-- the last of the ranges was torn last
torn_last : (ranges : List Range) (range : Range) (settled image : List ℕ) → IsTorn (ranges ++ range ∷ []) settled image
    → (between : List ℕ) × IsTorn ranges settled between × Torn range.at range.len between image
torn_last [] range settled image (next, torn, is) = (settled, refl, subst (λ (l : List ℕ). Torn range.at range.len settled l) (sym is) torn)
torn_last (r ∷ ranges) range settled image (next, torn, rest) =
    let last = torn_last ranges range next image rest in
    (last.0, (next, torn, last.1), last.2)

module _ (old new : Past) (at : ℕ) (bytes : List ℕ) (within : at ≤ length (standing old).content) (is : new ≡ grown (ticked old) (Write (next_count old.clock) at bytes)) where
  stands : standing new ≡ record { content = written (standing old).content at bytes; settled = (standing old).settled; waiting = (standing old).waiting ++ record { at = at; len = length bytes } ∷ [] }
  stands = ap standing is ∙ after_all_more (at_rest old.first) old.events (Write (next_count old.clock) at bytes) ∙ after_write (standing old) (next_count old.clock) at bytes within

  pub write_reads : (standing new).content ≡ written (standing old).content at bytes
  write_reads = ap (λ (s : Standing). s.content) stands

  pub write_torn : Torn at (length bytes) (standing old).content (standing new).content
  write_torn = subst (λ (l : List ℕ). Torn at (length bytes) (standing old).content l) (sym write_reads) (written_is_torn (standing old).content at bytes within)

  pub write_tears : TearsOnly at (length bytes) (λ image. MayLeave (standing old) image) (λ image. MayLeave (standing new) image)
  write_tears image left = torn_last (standing old).waiting _ (standing old).settled image (subst (λ (s : Standing). MayLeave s image) stands left)

  pub write_time : IsInTime old.clock old.events → old.clock ≤ next_count old.clock → Goes_on old new
  write_time in_time later = subst (λ (past : Past). Goes_on old past) (sym is) (elapses_event old in_time (next_count old.clock) later (Write (next_count old.clock) at bytes) refl)
