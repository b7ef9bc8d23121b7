-- Of every run it is told how nodes start.
use Rattle.std.proofs.Common.{◌≡◌, ℕ, ◌==◌, ◌+◌, ◌<◌, ◌≤◌, ◌&&◌, ◌||◌, cond, inl, inr, true, false, not, max, List, [], ◌∷◌, ◌++◌, ap, sym, ◌∙◌, refl, subst, arith}
use Rattle.std.specs.List.{Contains}
use Rattle.std.proofs.lemmas.Bool.{eqb-true}
use Rattle.std.proofs.lemmas.List.Elements.{Contains-append_left, Contains-push}
use Rattle.std.proofs.lemmas.List.Sums.{sum_by-append}
use Rattle.arc_data.specs.declared.record.Record.{Record}
use Rattle.arc_data.specs.declared.record.Record.TheVariants.{Opened, Promised, Voted, Closed}
use Rattle.arc_voting.specs.Journals.{is_opened, opened_count, promises_of}
use Rattle.arc_voting.specs.Tracks.{IsWellFormedWhole}
use Rattle.arc_voting.proofs.Facts.{facts_of, stands_at}
use Rattle.arc_voting.proofs.Ordering.{start_counted}
use Rattle.arc_told.specs.Moves.{IsUp, Moves}
use Rattle.arc_told.specs.Noted.{Standing, inc_after, may_fail, noted}
use Rattle.arc_told.specs.Parts.{TellsStart, TellsStarts}
use Rattle.arc_told.specs.Report.{Reported}
use Rattle.arc_told.specs.Report.Reported.{SlotsAre, Placed, Unavailable, FoundDown, FoundFull, Net, Delivered, MetDown, NoSuch, Stop, Crash, Up, JournalFull, DiskFailed, Accused, Lists}
use Rattle.arc_told.specs.Run.{Each, IsBeforeEnd, IsStart, Run}
use Rattle.arc_told.specs.View.{NodeView, View, World, kept_in}
use Rattle.arc_told.proofs.Falling.{kept_is_small}
use Rattle.arc_told.proofs.Growing.{Extends, moves_grow, possible_extends}
use Rattle.arc_told.proofs.Knowing.{Between, IsKnown, each_more, law_by}
use Rattle.arc_told.proofs.Lengths.{below_if, kept_sound, max_below}
use Rattle.arc_told.proofs.Shown.{failed_cause}

-- a journal that extends another one has no fewer starts
opened_grows : (xs ys : List Record) → Extends xs ys → opened_count xs ≤ opened_count ys
opened_grows xs ys extends =
    let sum : opened_count ys ≡ opened_count xs + opened_count extends.0 =
    ap opened_count extends.1 ∙ sum_by-append (λ x. cond {A = ℕ} (is_opened x) 1 0) xs extends.0 in
    omega (arith, sum)

opened_first : (inc : ℕ) (xs : List Record) → 1 ≤ opened_count (Opened inc ∷ xs)
opened_first inc xs =
    let sum : opened_count (Opened inc ∷ xs) ≡ opened_count (Opened inc ∷ []) + opened_count xs =
    sum_by-append (λ x. cond {A = ℕ} (is_opened x) 1 0) (Opened inc ∷ []) xs in
    let one : opened_count (Opened inc ∷ []) ≡ 1 = refl in
    omega (arith, sum, one)

-- a well-formed journal has a start
started : (promises : ℕ) (journal : List Record) → IsWellFormedWhole promises journal → 1 ≤ opened_count journal
started promises [] formed = let none : 0 < 0 = formed 0 in absurd (omega (arith, none))
started promises (Opened inc ∷ xs) formed = opened_first inc xs
started promises (Promised from ballot ∷ xs) formed = absurd ((formed 0).not_first refl)
started promises (Voted slot ballot c ∷ xs) formed = absurd ((formed 0).not_first refl)
started promises (Closed slot c ∷ xs) formed = absurd ((formed 0).0 refl)

kept_formed : (world : World) (before : List Reported) (view : View) (j : ℕ) → IsKnown world before view → j < 5 →
    IsWellFormedWhole (promises_of (kept_in view)) (kept_in view j)
kept_formed world before view j known small = (facts_of (kept_in view) (kept_sound world view known.order)).formed j small

-- the starts that a journal has are numbered up to their count
start_is_counted : (promises : ℕ) (journal : List Record) (inc : ℕ) → IsWellFormedWhole promises journal →
    Contains journal (Opened inc) →
    inc ≤ opened_count journal
start_is_counted promises journal inc formed there =
    start_counted promises journal there.0 inc formed (stands_at journal there.0 (Opened inc) there.1 there.2)

-- what a journal has stays in one that extends it
pub extends_has : (xs ys : List Record) (entry : Record) → Extends xs ys → Contains xs entry → Contains ys entry
extends_has xs ys entry extends there =
    subst (λ l. Contains l entry) (sym extends.1) (Contains-append_left xs extends.0 entry there)

-- The greatest number that was told isn't above the number of starts.
abbrev AllCounted : World → List Reported → View → Type 0
AllCounted world before view = (j : ℕ) → j < 5 → (noted world before j).inc ≤ opened_count (kept_in view j)

up_counted : (world : World) (node inc so_far : ℕ) (old new : NodeView) → IsUp world node inc old new →
    so_far ≤ opened_count new.kept →
    max so_far inc ≤ opened_count new.kept
up_counted world node inc so_far old new up fits =
    let sum : opened_count new.kept ≡ opened_count up.journal + opened_count (Opened inc ∷ []) =
    ap opened_count up.entries ∙ sum_by-append (λ x. cond {A = ℕ} (is_opened x) 1 0) up.journal (Opened inc ∷ []) in
    let one : opened_count (Opened inc ∷ []) ≡ 1 = refl in
    max_below so_far inc (opened_count new.kept) fits (omega (arith, sum, one, up.number))

inc_step : (world : World) (next : Reported) (old new : View) (j so_far : ℕ) → Moves world next old new →
    so_far ≤ opened_count (kept_in new j) → inc_after j so_far next ≤ opened_count (kept_in new j)
inc_step world (Up node inc) old new j so_far move fits =
    below_if (node == j) (max so_far inc) so_far (opened_count (kept_in new j))
    (λ is. up_counted world j inc so_far (old.node j) (new.node j)
    (subst (λ m. IsUp world m inc (old.node m) (new.node m)) (eqb-true node j is) move.1) fits)
    fits
inc_step world (SlotsAre n) old new j so_far move fits = fits
inc_step world (Placed asked slot token reply) old new j so_far move fits = fits
inc_step world (Unavailable asked tallies) old new j so_far move fits = fits
inc_step world (FoundDown asked node) old new j so_far move fits = fits
inc_step world (FoundFull asked len) old new j so_far move fits = fits
inc_step world (Net peer cycle fates) old new j so_far move fits = fits
inc_step world (Delivered k answer) old new j so_far move fits = fits
inc_step world (MetDown k) old new j so_far move fits = fits
inc_step world (NoSuch k held) old new j so_far move fits = fits
inc_step world (Stop node calls fill) old new j so_far move fits = fits
inc_step world (Crash node) old new j so_far move fits = fits
inc_step world (JournalFull node count) old new j so_far move fits = fits
inc_step world (DiskFailed node) old new j so_far move fits = fits
inc_step world (Accused node cause place) old new j so_far move fits = fits
inc_step world (Lists lengths) old new j so_far move fits = fits

counted_more : (world : World) (before : List Reported) (next : Reported) (old new : View) → Between world before next old new →
    AllCounted world before old → AllCounted world (before ++ next ∷ []) new
counted_more world before next old new step counted =
    each_more world (λ j so_far view. so_far.inc ≤ opened_count (kept_in view j)) before next new
    (λ j small.
    let grew : opened_count (kept_in old j) ≤ opened_count (kept_in new j) =
    opened_grows (kept_in old j) (kept_in new j) (moves_grow world next old new step.move j small) in
    inc_step world next old new j (noted world before j).inc step.move (omega (arith, grew, counted j small)))

-- ---- the part

start_told : (world : World) (before : List Reported) (node inc : ℕ) (old new : View) →
    Between world before (Up node inc) old new →
    AllCounted world before old → TellsStart world before node inc
start_told world before node inc old new step counted =
    let small : node < 5 = step.move.0.of_five in
    let up : IsUp world node inc (old.node node) (new.node node) = step.move.1 in
    let formed : IsWellFormedWhole (promises_of (kept_in old)) (kept_in old node) = kept_formed world before old node step.known small in
    let grew : opened_count (kept_in old node) ≤ opened_count up.journal =
    opened_grows (kept_in old node) up.journal (possible_extends (old.node node) up.journal up.possible) in
    record {
      there = extends_has (kept_in new node) (world.at_end node) (Opened inc) (step.later.end.grow node small)
          (subst (λ l. Contains l (Opened inc)) (sym up.entries) (Contains-push up.journal (Opened inc)));
      later = omega (arith, counted node small, grew, up.number);
      again = omega (arith, started (promises_of (kept_in old)) (kept_in old node) formed, grew, up.number);
      above_entry = λ i there.
          let low : i ≤ opened_count (kept_in old node) =
          start_is_counted (promises_of (kept_in old)) (kept_in old node) i formed
          (extends_has (world.at_entry node) (kept_in old node) (Opened i) (step.known.entry node small) there) in
          omega (arith, low, grew, up.number);
    }

may_fail_is : (st : Standing) → st.down ≡ false → (st.exposed || st.armed) ≡ true → may_fail st ≡ true
may_fail_is st up shown = ap (λ b. not b && (st.exposed || st.armed)) up ∙ shown

starts_part : (world : World) (before : List Reported) (next : Reported) (old new : View) → Between world before next old new →
    AllCounted world before old → TellsStarts world before next
starts_part world before (Up node inc) old new step counted = start_told world before node inc old new step counted
starts_part world before (JournalFull node count) old new step counted =
    let small : node < 5 = step.move.0.of_five in (
      step.move.1.at_limit,
      omega (
        arith,
        step.move.1.counted,
        step.move.1.at_limit,
        kept_is_small world new node small step.later.end,
        step.later.end.within node small,
      ),
    )
starts_part world before (DiskFailed node) old new step counted =
    elim (failed_cause world node (noted world before node).standing (old.node node) (new.node node) step.move.1
    (step.known.fits node step.move.0.of_five)) [
      | inl shown ↦ inl (may_fail_is (noted world before node).standing shown.0 shown.1)
      | inr excused ↦ inr excused
    ]
starts_part world before (Accused node cause place) old new step counted = step.move.0
starts_part world before next old new step counted = tt

pub starts_told : (world : World) (from to : View) (report : List Reported) → IsStart world from → Run world from report to →
    IsBeforeEnd world to → Each (TellsStarts world) [] report
starts_told world from to report start run end =
    law_by world (AllCounted world) (TellsStarts world) (λ view starts j small. opened_grows (world.at_entry j) (kept_in view j) (starts.behind j small))
    (λ before next old new step counted. counted_more world before next old new step counted)
    (λ before next old new step counted. starts_part world before next old new step counted) from to report start run end
