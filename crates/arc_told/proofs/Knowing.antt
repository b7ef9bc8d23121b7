-- What is known of every view of a run, and how a law is had from it.
use Rattle.std.proofs.Common.{ℕ, ◌<◌, List, [], ◌∷◌, ◌++◌, sym, subst}
use Rattle.std.proofs.lemmas.List.{append-nil, append_assoc}
use Rattle.arc_voting.specs.Growth.{Grows}
use Rattle.arc_told.specs.Moves.{Moves}
use Rattle.arc_told.specs.Noted.{Noted, noted, noted_after}
use Rattle.arc_told.specs.Report.{Reported}
use Rattle.arc_told.specs.Run.{Each, IsBeforeEnd, IsStart, Run}
use Rattle.arc_told.specs.View.{IsInOrder, View, World, kept_in}
use Rattle.arc_told.proofs.Chains.{each_tells}
use Rattle.arc_told.proofs.Falling.{AllFit, all_fit, noted_more, start_fits}
use Rattle.arc_told.proofs.Growing.{extends_over, moves_grow, run_before_end}
use Rattle.arc_told.proofs.InOrder.{moves_in_order}
use Rattle.arc_told.proofs.Standing.{entries_of}

-- What is known of a view behind these steps.
pub record IsKnown (world : World) (before : List Reported) (view : View) : Type 0 where
  pub end : IsBeforeEnd world view
  pub order : IsInOrder world view
  pub entry : Grows world.at_entry (kept_in view)
  pub fits : AllFit world before view

-- at the start
pub start_known : (world : World) (view : View) → IsStart world view → IsBeforeEnd world view → IsKnown world [] view
start_known world view start end = record {
  end = end;
  order = start.in_order;
  entry = start.behind;
  fits = start_fits world view start end;
}

-- after one step more
pub known_more : (world : World) (before : List Reported) (next : Reported) (old new : View) → IsKnown world before old →
    Moves world next old new →
    IsBeforeEnd world new → IsKnown world (before ++ next ∷ []) new
known_more world before next old new known move end = record {
  end = end;
  order = moves_in_order world next old new known.order move;
  entry = λ j small.
      extends_over (world.at_entry j) (old.node j).kept (new.node j).kept (known.entry j small)
      (moves_grow world next old new move j small);
  fits = all_fit world before next old new known.fits move end;
}

-- A step between two views of which all this is known.
pub record Between (world : World) (before : List Reported) (next : Reported) (old new : View) : Type 0 where
  pub known : IsKnown world before old
  pub move : Moves world next old new
  pub later : IsKnown world (before ++ next ∷ []) new

-- A law: what is known beside that holds at the start and after each step, and each step tells its part.
pub law_by : (world : World) (Q : List Reported → View → Type 0) (P : List Reported → Reported → Type 0) →
    ((view : View) → IsStart world view → Q [] view) →
    ((before : List Reported) (next : Reported) (old new : View) → Between world before next old new → Q before old →
    Q (before ++ next ∷ []) new) →
    ((before : List Reported) (next : Reported) (old new : View) → Between world before next old new → Q before old →
    P before next) →
    (from to : View) (report : List Reported) → IsStart world from → Run world from report to → IsBeforeEnd world to →
    Each P [] report
law_by world Q P start step part from to report starts run end =
    let I : List Reported → View → Type 0 = λ before view. IsKnown world before view × Q before view in
    each_tells world I P
    (λ before next old new known move ahead.
    let later : IsKnown world (before ++ next ∷ []) new = known_more world before next old new known.0 move ahead in
    let between : Between world before next old new = record { known = known.0; move = move; later = later } in
    (part before next old new between known.1, (later, step before next old new between known.1)))
    [] report from to (start_known world from starts (run_before_end world report from to run end), start from starts) run end

-- What is known beside that holds behind a run.
pub known_behind : (world : World) (Q : List Reported → View → Type 0) →
    ((before : List Reported) (next : Reported) (old new : View) → Between world before next old new → Q before old →
    Q (before ++ next ∷ []) new) →
    (before report : List Reported) (from to : View) → IsKnown world before from → Q before from → Run world from report to →
    IsBeforeEnd world to → Q (before ++ report) to
known_behind world Q step before [] from to known ahead run end =
    subst (λ l. Q l to) (sym (append-nil before)) (subst (λ v. Q before v) (sym run) ahead)
known_behind world Q step before (next ∷ later) from to known ahead run end =
    let more : IsKnown world (before ++ next ∷ []) run.0 =
    known_more world before next from run.0 known run.1 (run_before_end world later run.0 to run.2 end) in
    let between : Between world before next from run.0 = record { known = known; move = run.1; later = more } in
    subst (λ l. Q l to) (append_assoc before (next ∷ []) later)
    (known_behind world Q step (before ++ next ∷ []) later run.0 to more (step before next from run.0 between ahead) run.2 end)

-- What is known of each of the five, from what is noted of it.
abbrev pub OfEach : World → (ℕ → Noted → View → Type 0) → List Reported → View → Type 0
OfEach world Q before view = (j : ℕ) → j < 5 → Q j (noted world before j) view

-- after one step more
pub each_more : (world : World) (Q : ℕ → Noted → View → Type 0) (before : List Reported) (next : Reported) (new : View) →
    ((j : ℕ) → j < 5 → Q j (noted_after (entries_of world j) j (noted world before j) next) new) →
    OfEach world Q (before ++ next ∷ []) new
each_more world Q before next new step j small =
    subst (λ n. Q j n new) (sym (noted_more world before next j)) (step j small)
