-- Who may be down, over a run.
use Rattle.std.proofs.Common.{◌≡◌, ℕ, ◌==◌, ◌+◌, ◌*◌, ◌<◌, ◌≤◌, inl, inr, true, false, if◌then◌else◌, Option, Some, None, List, [], ◌∷◌, ◌++◌, length, ap, sym, ◌∙◌, refl, subst, arith, true≢false}
use Rattle.std.proofs.lemmas.Bool.{cases_Bool, eqb-true, eqb-false, ltb-false}
use Rattle.std.proofs.lemmas.List.{length-append}
use Rattle.std.proofs.lemmas.List.Sums.{fold-append}
use Rattle.arc_told.specs.Moves.{HasFailed, IsJournalFull, IsUp, Moves, NodeGoes, OthersStay, crashing, len_if_up, stopping}
use Rattle.arc_told.specs.Noted.{Standing, crashed, measured, not_up_again, noted, noted_after, noted_at_entry, shown_down, stands_after, told_to_stop, up_again}
use Rattle.arc_told.specs.Report.{Reported, length_of}
use Rattle.arc_told.specs.Report.Reported.{SlotsAre, Placed, Unavailable, FoundDown, FoundFull, Net, Delivered, MetDown, NoSuch, Stop, Crash, Up, JournalFull, DiskFailed, Accused, Lists}
use Rattle.arc_told.specs.Run.{IsBeforeEnd, IsStart}
use Rattle.arc_told.specs.View.{NodeView, View, World, len_in}
use Rattle.arc_told.proofs.Growing.{Extends}
use Rattle.arc_told.proofs.Standing.{Fits, entries_of, goes_fits, none_is_none}
use Rattle.arc_told.proofs.Shown.{crash_fits, ended_fits, failed_cause, far_stop, fits_if, full_fits, near_stop, shown_down_fits, up_fits}

-- one step more is noted behind the others
pub noted_more : (world : World) (before : List Reported) (next : Reported) (j : ℕ) →
    noted world (before ++ next ∷ []) j ≡ noted_after (entries_of world j) j (noted world before j) next
noted_more world before next j =
    fold-append (noted_after (entries_of world j) j) (noted_at_entry j (world.at_entry j)) before (next ∷ [])

-- what a node keeps isn't longer than its journal at the end
pub kept_is_small : (world : World) (view : View) (j : ℕ) → j < 5 → IsBeforeEnd world view →
    length (view.node j).kept ≤ entries_of world j
kept_is_small world view j small end =
    let more : Extends (view.node j).kept (world.at_end j) = end.grow j small in
    let len : entries_of world j ≡ length (view.node j).kept + length more.0 =
    ap (λ l. length l) more.1 ∙ length-append (view.node j).kept more.0 in
    omega (arith, len)

-- a step of one node
one_fits : (world : World) (node j : ℕ) (x st : Standing) (old new : View) → j < 5 → OthersStay node old new → Fits world j st (old.node j) →
    (node ≡ j → Fits world j x (new.node j)) → Fits world j (if node == j then x else st) (new.node j)
one_fits world node j x st old new small others fits here =
    fits_if world j (node == j) x st (new.node j) (λ is. here (eqb-true node j is))
    (λ isnt. subst (λ n. Fits world j st n) (sym (others j small (λ same. eqb-false node j isnt (sym same)))) fits)

-- a line of lengths
measured_fits : (world : World) (j : ℕ) (st : Standing) (node : NodeView) (o : Option ℕ) → (o ≡ None → node.up ≡ false) →
    Fits world j st node → Fits world j (measured o st) node
measured_fits world j st node None isnt fits = shown_down_fits world j st node (isnt refl) fits
measured_fits world j st node (Some n) isnt fits = fits

pub none_is_down : (view : View) (j : ℕ) → len_if_up view j ≡ None → (view.node j).up ≡ false
none_is_down view j none = elim (cases_Bool (view.node j).up) [
  | inl is ↦
      let some : len_if_up view j ≡ Some (len_in view j) = rw is refl in
      absurd (none_is_none (len_in view j) (sym none ∙ some))
  | inr isnt ↦ isnt
]

-- told to stop
stop_fits : (world : World) (j calls : ℕ) (st : Standing) (node : NodeView) → Fits world j st node →
    Fits world j (told_to_stop (entries_of world j) calls st) (stopping calls node)
stop_fits world j calls st node fits =
    fits_if world j _ _ _ (stopping calls node) (λ near. near_stop world j calls st node fits)
    (λ far. far_stop world j calls st node (ltb-false calls (4 * entries_of world j + 4) far) fits)

-- a delivery
delivery_fits : (world : World) (to j : ℕ) (st : Standing) (old new : View) → j < 5 → NodeGoes world to (old.node to) (new.node to) →
    OthersStay to old new → IsBeforeEnd world new → Fits world j st (old.node j) → Fits world j st (new.node j)
delivery_fits world to j st old new small goes others end fits = elim (cases_Bool (to == j)) [
  | inl is ↦
      let here : NodeGoes world j (old.node j) (new.node j) =
      subst (λ m. NodeGoes world m (old.node m) (new.node m)) (eqb-true to j is) goes in
      goes_fits world j st (old.node j) (new.node j) here (kept_is_small world new j small end) (end.within j small) fits
  | inr isnt ↦ subst (λ n. Fits world j st n) (sym (others j small (λ same. eqb-false to j isnt (sym same)))) fits
]

-- not up after a restart, whatever is shown of it
restarted_fits : (world : World) (j : ℕ) (st : Standing) (old new : NodeView) → new.up ≡ false → HasFailed world j old new → Fits world j st old →
    Fits world j (not_up_again st) new
restarted_fits world j st old new isnt failed fits = elim (failed_cause world j st old new failed fits) [
  | inl shown ↦ fits_if world j st.down _ _ new
      (λ down. absurd (true≢false (sym down ∙ shown.0)))
      (λ other. ended_fits world j _ new isnt (inl shown.1))
  | inr excused ↦ ended_fits world j (not_up_again st) new isnt (inr (inr excused))
]

-- what is shown of a node fits it after each step
pub stands_step : (world : World) (next : Reported) (old new : View) (j : ℕ) (st : Standing) → j < 5 → Moves world next old new →
    IsBeforeEnd world new → Fits world j st (old.node j) → Fits world j (stands_after (entries_of world j) j st next) (new.node j)
stands_step world (SlotsAre n) old new j st small move end fits = subst (λ v. Fits world j st (v.node j)) (sym move) fits
stands_step world (Placed asked slot token reply) old new j st small move end fits =
    goes_fits world j st (old.node j) (new.node j) (move.goes.all_go j small) (kept_is_small world new j small end) (end.within j small) fits
stands_step world (Unavailable asked tallies) old new j st small move end fits =
    goes_fits world j st (old.node j) (new.node j) (move.goes.all_go j small) (kept_is_small world new j small end) (end.within j small) fits
stands_step world (FoundDown asked node) old new j st small move end fits =
    let went : Fits world j st (new.node j) = goes_fits world j st (old.node j) (new.node j) (move.goes.all_go j small)
    (kept_is_small world new j small end) (end.within j small) fits in
    fits_if world j (node == j) (shown_down st) st (new.node j)
    (λ is. shown_down_fits world j st (new.node j) (subst (λ m. (new.node m).up ≡ false) (eqb-true node j is) move.not_up) went)
    (λ isnt. went)
stands_step world (FoundFull asked len) old new j st small move end fits =
    goes_fits world j st (old.node j) (new.node j) (move.goes.all_go j small) (kept_is_small world new j small end) (end.within j small) fits
stands_step world (Net peer cycle fates) old new j st small move end fits =
    subst (λ f. Fits world j st (f j)) (sym move.nodes) fits
stands_step world (Delivered k answer) old new j st small move end fits =
    delivery_fits world move.delivered.letter.0 j st old new small move.delivered.goes move.delivered.others end fits
stands_step world (MetDown k) old new j st small move end fits =
    delivery_fits world move.delivered.letter.0 j st old new small move.delivered.goes move.delivered.others end fits
stands_step world (NoSuch k held) old new j st small move end fits = subst (λ v. Fits world j st (v.node j)) (sym move.2) fits
stands_step world (Stop node calls fill) old new j st small move end fits =
    one_fits world node j (told_to_stop (entries_of world j) calls st) st old new small move.0.others fits
    (λ same. subst (λ n. Fits world j (told_to_stop (entries_of world j) calls st) n)
    (sym (subst (λ m. new.node m ≡ stopping calls (old.node m)) same move.1)) (stop_fits world j calls st (old.node j) fits))
stands_step world (Crash node) old new j st small move end fits =
    one_fits world node j crashed st old new small move.0.others fits
    (λ same. subst (λ n. Fits world j crashed n)
    (sym (subst (λ m. new.node m ≡ crashing (old.node m)) same move.1)) (crash_fits world j (old.node j)))
stands_step world (Up node inc) old new j st small move end fits =
    one_fits world node j (up_again st) st old new small move.0.others fits
    (λ same. up_fits world j inc st (old.node j) (new.node j)
    (subst (λ m. IsUp world m inc (old.node m) (new.node m)) same move.1) fits)
stands_step world (JournalFull node count) old new j st small move end fits =
    one_fits world node j (not_up_again st) st old new small move.0.others fits
    (λ same.
    let full : IsJournalFull world count (old.node j) (new.node j) =
    subst (λ m. IsJournalFull world count (old.node m) (new.node m)) same move.1 in
    ended_fits world j (not_up_again st) (new.node j) full.not_up
    (full_fits world j count (not_up_again st) (old.node j) (new.node j) full (kept_is_small world new j small end) (end.within j small)))
stands_step world (DiskFailed node) old new j st small move end fits =
    one_fits world node j (not_up_again st) st old new small move.0.others fits
    (λ same.
    let failed : HasFailed world j (old.node j) (new.node j) = subst (λ m. HasFailed world m (old.node m) (new.node m)) same move.1 in
    restarted_fits world j st (old.node j) (new.node j) failed.not_up failed fits)
stands_step world (Accused node cause place) old new j st small move end fits =
    one_fits world node j (not_up_again st) st old new small move.2.others fits
    (λ same. ended_fits world j (not_up_again st) (new.node j) (subst (λ m. (new.node m).up ≡ false) same move.4)
    (inr (inr (subst (λ m. world.excused m ≡ true) same move.1))))
stands_step world (Lists lengths) old new j st small move end fits =
    subst (λ v. Fits world j (measured (length_of lengths j) st) (v.node j)) (sym move.0)
    (measured_fits world j st (old.node j) (length_of lengths j) (λ none. none_is_down old j (sym (move.1 j small) ∙ none)) fits)

-- What is shown of the five fits them.
abbrev pub AllFit : World → List Reported → View → Type 0
AllFit world before view = (j : ℕ) → j < 5 → Fits world j (noted world before j).standing (view.node j)

-- after one step more
pub all_fit : (world : World) (before : List Reported) (next : Reported) (old new : View) → AllFit world before old → Moves world next old new →
    IsBeforeEnd world new → AllFit world (before ++ next ∷ []) new
all_fit world before next old new fit move end j small =
    subst (λ n. Fits world j n.standing (new.node j)) (sym (noted_more world before next j))
    (stands_step world next old new j (noted world before j).standing small move end (fit j small))

-- at the start
pub start_fits : (world : World) (view : View) → IsStart world view → IsBeforeEnd world view → AllFit world [] view
start_fits world view start end j small = record {
  down = λ down. absurd (true≢false (sym down));
  cause = λ isnt. elim (start.up j small isnt) [
    | inl full ↦ inr (inl (omega (arith, full, kept_is_small world view j small end, end.within j small)))
    | inr excused ↦ inr (inr excused)
  ];
  stop = λ is calls left. elim (start.no_stop j small) [
    | inl none ↦ absurd (none_is_none calls (sym none ∙ left))
    | inr excused ↦ inr (inr excused)
  ];
}
