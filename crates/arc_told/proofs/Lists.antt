-- Of every run it is told how long lists are.
use Rattle.std.proofs.Common.{◌≡◌, ℕ, ◌==◌, ◌<◌, inl, inr, Bool, true, false, if◌then◌else◌, Option, Some, None, IfSome, List, [], ◌∷◌, ◌++◌, length, ap, sym, ◌∙◌, refl, subst, true≢false}
use Rattle.std.proofs.lemmas.Bool.{cases_Bool, eqb-true, eqb-false}
use Rattle.arc_voting.specs.Lists.{applied}
use Rattle.arc_told.specs.Moves.{CallGoes, OthersStay, len_if_up}
use Rattle.arc_told.specs.Noted.{frozen_after, length_or, noted}
use Rattle.arc_told.specs.Parts.{TellsLength, TellsLists}
use Rattle.arc_told.specs.Report.{Asked, Reported, Tally, length_of}
use Rattle.arc_told.specs.Report.Reported.{SlotsAre, Placed, Unavailable, FoundDown, FoundFull, Net, Delivered, MetDown, NoSuch, Stop, Crash, Up, JournalFull, DiskFailed, Accused, Lists}
use Rattle.arc_told.specs.Run.{Each, IsBeforeEnd, IsStart, Run}
use Rattle.arc_told.specs.View.{NodeView, View, World, kept_in, len_in}
use Rattle.arc_told.proofs.Growing.{run_before_end}
use Rattle.arc_told.proofs.Knowing.{Between, IsKnown, each_more, known_behind, law_by, start_known}
use Rattle.arc_told.proofs.Lengths.{OwnFit, list_grows, own_before_end, own_more, own_start}
use Rattle.arc_told.proofs.Owing.{not_shown_down}
use Rattle.arc_told.proofs.Possible.{HasLength, JournalsFollow, accused_follow, crash_follow, failed_follow, full_follow, same_follow, still_long, stop_follow, sure_has, up_follow}
use Rattle.arc_told.proofs.Silence.{IsHeard, heard_step}
use Rattle.arc_told.proofs.Standing.{some_is}

-- A length that was told of a silent peer is the length of each list that it may have.
abbrev pub IsFrozen : Option ℕ → Bool → NodeView → Type 0
IsFrozen frozen silent node = (len : ℕ) → frozen ≡ Some len → (silent ≡ true) × HasLength node len

nothing_frozen : (silent : Bool) (node : NodeView) → IsFrozen None silent node
nothing_frozen silent node len is = cc

frozen_follows : (frozen : Option ℕ) (p q : Bool) (old new : NodeView) → q ≡ p → JournalsFollow old new →
    IsFrozen frozen p old → IsFrozen frozen q new
frozen_follows frozen p q old new same follow is len at =
    let before : (p ≡ true) × HasLength old len = is len at in (same ∙ before.0, still_long old new len follow before.1)

frozen_if : (b : Bool) (x y : Option ℕ) (silent : Bool) (node : NodeView) → (b ≡ true → IsFrozen x silent node) →
    (b ≡ false → IsFrozen y silent node) →
    IsFrozen (if b then x else y) silent node
frozen_if true x y silent node at_true at_false = at_true refl
frozen_if false x y silent node at_true at_false = at_false refl

-- a silent peer on which no call is made stays as it is
quiet_frozen : (world : World) (asked : Asked) (tallies : List Tally) (old new : View) (j : ℕ) (frozen : Option ℕ) → j < 5 →
    CallGoes world asked tallies old new → IsFrozen frozen (old.silent j) (old.node j) →
    IsFrozen (if asked.endpoint == j then None else frozen) (new.silent j) (new.node j)
quiet_frozen world asked tallies old new j frozen small goes is =
    frozen_if (asked.endpoint == j) None frozen (new.silent j) (new.node j)
    (λ same. nothing_frozen (new.silent j) (new.node j))
    (λ other len at.
    let before : (old.silent j ≡ true) × HasLength (old.node j) len = is len at in
    let stays : new.node j ≡ old.node j =
    goes.quiet j small (λ same. eqb-false asked.endpoint j other (sym same)) before.0 in
    (ap (λ f. f j) goes.silent ∙ before.0, still_long (old.node j) (new.node j) len (same_follow (old.node j) (new.node j) stays) before.1))

-- lists follow where one node changes
pub one_follows : (node j : ℕ) (old new : View) → j < 5 → OthersStay node old new →
    JournalsFollow (old.node node) (new.node node) →
    JournalsFollow (old.node j) (new.node j)
one_follows node j old new small others here = elim (cases_Bool (node == j)) [
  | inl same ↦ subst (λ m. JournalsFollow (old.node m) (new.node m)) (eqb-true node j same) here
  | inr other ↦ same_follow (old.node j) (new.node j) (others j small (λ same. eqb-false node j other (sym same)))
]

changed_frozen : (node j : ℕ) (frozen : Option ℕ) (old new : View) → j < 5 → OthersStay node old new → new.silent ≡ old.silent →
    JournalsFollow (old.node node) (new.node node) → IsFrozen frozen (old.silent j) (old.node j) →
    IsFrozen frozen (new.silent j) (new.node j)
changed_frozen node j frozen old new small others silent here is =
    frozen_follows frozen (old.silent j) (new.silent j) (old.node j) (new.node j) (ap (λ f. f j) silent)
    (one_follows node j old new small others here) is

-- a line of lengths
told_frozen : (world : World) (before : List Reported) (view : View) (j : ℕ) (frozen told : Option ℕ) →
    IsKnown world before view → j < 5 →
    told ≡ len_if_up view j → view.silent j ≡ true → IsFrozen frozen (view.silent j) (view.node j) →
    IsFrozen (length_or frozen told) (view.silent j) (view.node j)
told_frozen world before view j frozen told known small is silent had = elim (cases_Bool (view.node j).up) [
  | inl up ↦
      let some : told ≡ Some (len_in view j) = is ∙ (rw up refl) in
      subst (λ o. IsFrozen (length_or frozen o) (view.silent j) (view.node j)) (sym some)
      (λ len at.
      let e : len_in view j ≡ len = some_is (len_in view j) len at in
      (silent, subst (λ n. HasLength (view.node j) n) e (sure_has (view.node j) (known.order.sure j small up))))
  | inr isnt ↦
      let none : told ≡ None = is ∙ (rw isnt refl) in
      subst (λ o. IsFrozen (length_or frozen o) (view.silent j) (view.node j)) (sym none) had
]

-- after each step
frozen_step : (world : World) (before : List Reported) (next : Reported) (old new : View) (j : ℕ) (shown : Bool) (frozen : Option ℕ) →
    Between world before next old new → j < 5 → (shown ≡ true → old.silent j ≡ true) →
    IsFrozen frozen (old.silent j) (old.node j) →
    IsFrozen (frozen_after j shown frozen next) (new.silent j) (new.node j)
frozen_step world before (SlotsAre n) old new j shown frozen step small heard is =
    subst (λ v. IsFrozen frozen (v.silent j) (v.node j)) (sym step.move) is
frozen_step world before (Placed asked slot token reply) old new j shown frozen step small heard is =
    quiet_frozen world asked [] old new j frozen small step.move.goes is
frozen_step world before (Unavailable asked tallies) old new j shown frozen step small heard is =
    quiet_frozen world asked tallies old new j frozen small step.move.goes is
frozen_step world before (FoundDown asked node) old new j shown frozen step small heard is =
    quiet_frozen world asked [] old new j frozen small step.move.goes is
frozen_step world before (FoundFull asked len) old new j shown frozen step small heard is =
    quiet_frozen world asked [] old new j frozen small step.move.goes is
frozen_step world before (Net node cycle fates) old new j shown frozen step small heard is =
    frozen_if (node == j) None frozen (new.silent j) (new.node j) (λ same. nothing_frozen (new.silent j) (new.node j))
    (λ other.
    let silent : new.silent j ≡ old.silent j = step.move.silent j small ∙ (rw other refl) in
    frozen_follows frozen (old.silent j) (new.silent j) (old.node j) (new.node j) silent
    (same_follow (old.node j) (new.node j) (ap (λ f. f j) step.move.nodes)) is)
frozen_step world before (Delivered k answer) old new j shown frozen step small heard is = nothing_frozen (new.silent j) (new.node j)
frozen_step world before (MetDown k) old new j shown frozen step small heard is = nothing_frozen (new.silent j) (new.node j)
frozen_step world before (NoSuch k held) old new j shown frozen step small heard is =
    subst (λ v. IsFrozen frozen (v.silent j) (v.node j)) (sym step.move.2) is
frozen_step world before (Stop node calls fill) old new j shown frozen step small heard is =
    changed_frozen node j frozen old new small step.move.0.others step.move.0.exchanges.silent
    (stop_follow calls (old.node node) (new.node node) step.move.1) is
frozen_step world before (Crash node) old new j shown frozen step small heard is =
    changed_frozen node j frozen old new small step.move.0.others step.move.0.exchanges.silent
    (crash_follow (old.node node) (new.node node) step.move.1) is
frozen_step world before (Up node inc) old new j shown frozen step small heard is =
    changed_frozen node j frozen old new small step.move.0.others step.move.0.exchanges.silent
    (up_follow world node inc (old.node node) (new.node node) step.move.1) is
frozen_step world before (JournalFull node count) old new j shown frozen step small heard is =
    changed_frozen node j frozen old new small step.move.0.others step.move.0.exchanges.silent
    (full_follow world count (old.node node) (new.node node) step.move.1) is
frozen_step world before (DiskFailed node) old new j shown frozen step small heard is =
    changed_frozen node j frozen old new small step.move.0.others step.move.0.exchanges.silent
    (failed_follow (old.node node) (new.node node) step.move.1.lists) is
frozen_step world before (Accused node cause place) old new j shown frozen step small heard is =
    changed_frozen node j frozen old new small step.move.2.others step.move.2.exchanges.silent
    (accused_follow (old.node node) (new.node node) step.move.3) is
frozen_step world before (Lists lengths) old new j shown frozen step small heard is =
    subst (λ v. IsFrozen (if shown then length_or frozen (length_of lengths j) else None) (v.silent j) (v.node j)) (sym step.move.0)
    (frozen_if shown (length_or frozen (length_of lengths j)) None (old.silent j) (old.node j)
    (λ silent. told_frozen world before old j frozen (length_of lengths j) step.known small (step.move.1 j small) (heard silent) is)
    (λ other. nothing_frozen (old.silent j) (old.node j)))

-- ---- the part

-- What is known beside the rest: how long each list is, who is silent, and which lengths are frozen.
abbrev pub IsMeasured : World → List Reported → View → Type 0
IsMeasured world before view =
    OwnFit world before view
    × ((j : ℕ) → j < 5 → IsHeard (noted world before j).exchanges (view.silent j))
    × ((j : ℕ) → j < 5 → IsFrozen (noted world before j).frozen (view.silent j) (view.node j))

frozen_is : (frozen : Option ℕ) (silent : Bool) (node : NodeView) → IsFrozen frozen silent node → (len : ℕ) → HasLength node len →
    length (applied node.kept) ≡ len → IfSome frozen (λ m. len ≡ m)
frozen_is None silent node is len has own = tt
frozen_is (Some m) silent node is len has own =
    let told : (silent ≡ true) × HasLength node m = is m refl in sym own ∙ told.1 node.kept (inl refl)

-- an up node's length
up_told : (world : World) (before : List Reported) (view : View) (j : ℕ) → IsKnown world before view →
    IsMeasured world before view → j < 5 →
    (view.node j).up ≡ true → TellsLength world before j (Some (len_in view j))
up_told world before view j known measured small up = (
  own_before_end world view j known.end small,
  measured.0 j small,
  list_grows (world.at_entry j) (kept_in view j) (known.entry j small),
  not_shown_down world before view j known small up,
  frozen_is (noted world before j).frozen (view.silent j) (view.node j) (measured.2 j small) (len_in view j)
      (sure_has (view.node j) (known.order.sure j small up)) refl,
)

length_told : (world : World) (before : List Reported) (view : View) (j : ℕ) → IsKnown world before view →
    IsMeasured world before view → j < 5 →
    TellsLength world before j (len_if_up view j)
length_told world before view j known measured small = elim (cases_Bool (view.node j).up) [
  | inl up ↦
      let some : len_if_up view j ≡ Some (len_in view j) = rw up refl in
      subst (λ o. TellsLength world before j o) (sym some) (up_told world before view j known measured small up)
  | inr isnt ↦
      let none : len_if_up view j ≡ None = rw isnt refl in
      subst (λ o. TellsLength world before j o) (sym none) ((known.fits j small).cause isnt)
]

lists_part : (world : World) (before : List Reported) (next : Reported) (old new : View) → Between world before next old new →
    IsMeasured world before old → TellsLists world before next
lists_part world before (Lists lengths) old new step measured =
    λ j small.
    subst (λ o. TellsLength world before j o) (sym (step.move.1 j small)) (length_told world before old j step.known measured small)
lists_part world before next old new step measured = tt

measured_more : (world : World) (before : List Reported) (next : Reported) (old new : View) → Between world before next old new →
    IsMeasured world before old → IsMeasured world (before ++ next ∷ []) new
measured_more world before next old new step measured = (
  own_more world before next old new step measured.0,
  each_more world (λ j so_far view. IsHeard so_far.exchanges (view.silent j)) before next new
      (λ j small. heard_step world next old new j (noted world before j).standing.exposed (noted world before j).exchanges small step.move
      (measured.1 j small)),
  each_more world (λ j so_far view. IsFrozen so_far.frozen (view.silent j) (view.node j)) before next new
      (λ j small. frozen_step world before next old new j (noted world before j).exchanges.silent (noted world before j).frozen step small
      (measured.1 j small) (measured.2 j small)),
)

measured_start : (world : World) (view : View) → IsStart world view → IsMeasured world [] view
measured_start world view starts = (
  own_start world view starts,
  (λ j small is. absurd (true≢false (sym is))),
  λ j small. nothing_frozen (view.silent j) (view.node j),
)

-- so much is known behind a run
pub measured_behind : (world : World) (from to : View) (report : List Reported) → IsStart world from → Run world from report to →
    IsBeforeEnd world to → IsMeasured world report to
measured_behind world from to report start run end =
    known_behind world (IsMeasured world)
    (λ before next old new step measured. measured_more world before next old new step measured) [] report from to
    (start_known world from start (run_before_end world report from to run end)) (measured_start world from start) run end

pub lists_told : (world : World) (from to : View) (report : List Reported) → IsStart world from → Run world from report to →
    IsBeforeEnd world to → Each (TellsLists world) [] report
lists_told world from to report start run end =
    law_by world (IsMeasured world) (TellsLists world)
    (λ view starts. measured_start world view starts)
    (λ before next old new step measured. measured_more world before next old new step measured)
    (λ before next old new step measured. lists_part world before next old new step measured) from to report start run end
