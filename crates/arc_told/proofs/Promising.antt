-- How many ballots of its own a node promised: those at entry, and one for each tally of its lines at least.
use Rattle.std.proofs.Common.{◌≡◌, ℕ, ◌==◌, ◌+◌, ◌<◌, ◌≤◌, cond, List, [], ◌∷◌, ◌++◌, length, ap, sym, ◌∙◌, subst, arith}
use Rattle.std.proofs.lemmas.Bool.{eqb-true}
use Rattle.std.proofs.lemmas.List.Sums.{sum_by-append}
use Rattle.arc_data.specs.declared.record.Record.{Record}
use Rattle.arc_told.specs.Moves.{IsUnavailable, Moves}
use Rattle.arc_told.specs.Noted.{noted, own_promises, promised_after, promises_own}
use Rattle.arc_told.specs.Report.{Asked, Reported, Tally}
use Rattle.arc_told.specs.Report.Reported.{SlotsAre, Placed, Unavailable, FoundDown, FoundFull, Net, Delivered, MetDown, NoSuch, Stop, Crash, Up, JournalFull, DiskFailed, Accused, Lists}
use Rattle.arc_told.specs.Run.{IsStart}
use Rattle.arc_told.specs.View.{View, World, kept_in}
use Rattle.arc_told.proofs.Growing.{Extends, moves_grow}
use Rattle.arc_told.proofs.Knowing.{Between, each_more}
use Rattle.arc_told.proofs.Lengths.{below_if}

-- a journal that extends another one has no fewer
pub promises_grow : (node : ℕ) (xs ys : List Record) → Extends xs ys → own_promises node xs ≤ own_promises node ys
promises_grow node xs ys extends =
    let sum : own_promises node ys ≡ own_promises node xs + own_promises node extends.0 =
    ap (own_promises node) extends.1 ∙ sum_by-append (λ x. cond {A = ℕ} (promises_own node x) 1 0) xs extends.0 in
    omega (arith, sum)

eight_more : (world : World) (asked : Asked) (tallies : List Tally) (old new : View) (so_far : ℕ) →
    IsUnavailable world asked tallies old new →
    so_far ≤ own_promises asked.endpoint (kept_in old asked.endpoint) →
    so_far + length tallies ≤ own_promises asked.endpoint (kept_in new asked.endpoint)
eight_more world asked tallies old new so_far move fits = omega (arith, move.promised, move.eight, fits)

promised_step : (world : World) (next : Reported) (old new : View) (j so_far : ℕ) → Moves world next old new →
    so_far ≤ own_promises j (kept_in old j) → own_promises j (kept_in old j) ≤ own_promises j (kept_in new j) →
    promised_after j so_far next ≤ own_promises j (kept_in new j)
promised_step world (Unavailable asked tallies) old new j so_far move fits grew =
    below_if (asked.endpoint == j) (so_far + length tallies) so_far (own_promises j (kept_in new j))
    (λ is.
    let e : asked.endpoint ≡ j = eqb-true asked.endpoint j is in
    subst (λ m. so_far + length tallies ≤ own_promises m (kept_in new m)) e
    (eight_more world asked tallies old new so_far move (subst (λ m. so_far ≤ own_promises m (kept_in old m)) (sym e) fits)))
    (omega (arith, fits, grew))
promised_step world (SlotsAre n) old new j so_far move fits grew = omega (arith, fits, grew)
promised_step world (Placed asked slot token reply) old new j so_far move fits grew = omega (arith, fits, grew)
promised_step world (FoundDown asked node) old new j so_far move fits grew = omega (arith, fits, grew)
promised_step world (FoundFull asked len) old new j so_far move fits grew = omega (arith, fits, grew)
promised_step world (Net peer cycle fates) old new j so_far move fits grew = omega (arith, fits, grew)
promised_step world (Delivered k answer) old new j so_far move fits grew = omega (arith, fits, grew)
promised_step world (MetDown k) old new j so_far move fits grew = omega (arith, fits, grew)
promised_step world (NoSuch k held) old new j so_far move fits grew = omega (arith, fits, grew)
promised_step world (Stop node calls fill) old new j so_far move fits grew = omega (arith, fits, grew)
promised_step world (Crash node) old new j so_far move fits grew = omega (arith, fits, grew)
promised_step world (Up node inc) old new j so_far move fits grew = omega (arith, fits, grew)
promised_step world (JournalFull node count) old new j so_far move fits grew = omega (arith, fits, grew)
promised_step world (DiskFailed node) old new j so_far move fits grew = omega (arith, fits, grew)
promised_step world (Accused node cause place) old new j so_far move fits grew = omega (arith, fits, grew)
promised_step world (Lists lengths) old new j so_far move fits grew = omega (arith, fits, grew)

-- Each node promised at least as many as are known.
abbrev pub ArePromised : World → List Reported → View → Type 0
ArePromised world before view = (j : ℕ) → j < 5 → (noted world before j).promised ≤ own_promises j (kept_in view j)

pub promised_start : (world : World) (view : View) → IsStart world view → ArePromised world [] view
promised_start world view start j small = promises_grow j (world.at_entry j) (kept_in view j) (start.behind j small)

pub promised_more : (world : World) (before : List Reported) (next : Reported) (old new : View) →
    Between world before next old new →
    ArePromised world before old → ArePromised world (before ++ next ∷ []) new
promised_more world before next old new step known =
    each_more world (λ j so_far view. so_far.promised ≤ own_promises j (kept_in view j)) before next new
    (λ j small. promised_step world next old new j (noted world before j).promised step.move (known j small)
    (promises_grow j (kept_in old j) (kept_in new j) (moves_grow world next old new step.move j small)))
