-- One step after another: what each tells.
use Rattle.std.proofs.Common.{List, [], ◌∷◌, ◌++◌, refl, subst}
use Rattle.arc_told.specs.Moves.{Moves}
use Rattle.arc_told.specs.Report.{Reported}
use Rattle.arc_told.specs.Run.{Each, IsBeforeEnd, Run}
use Rattle.arc_told.specs.View.{View, World}
use Rattle.arc_told.proofs.Growing.{run_before_end}

-- A step after what was known of those before tells its part, and as much is known behind it.
abbrev pub Tells : World → (List Reported → View → Type 0) → (List Reported → Reported → Type 0) → Type 0
Tells world I P = (before : List Reported) (next : Reported) (old new : View) → I before old → Moves world next old new →
    IsBeforeEnd world new → P before next × I (before ++ next ∷ []) new

-- then each step of a run tells it
pub each_tells : (world : World) (I : List Reported → View → Type 0) (P : List Reported → Reported → Type 0) → Tells world I P →
    (before report : List Reported) (from to : View) → I before from → Run world from report to → IsBeforeEnd world to →
    Each P before report
each_tells world I P step before [] from to known run end = tt
each_tells world I P step before (next ∷ later) from to known run end =
    let here : P before next × I (before ++ next ∷ []) run.0 =
    step before next from run.0 known run.1 (run_before_end world later run.0 to run.2 end) in
    (here.0, each_tells world I P step (before ++ next ∷ []) later run.0 to here.1 run.2 end)

-- a run with one step more
pub run_more : (world : World) (report : List Reported) (next : Reported) (from between to : View) →
    Run world from report between →
    Moves world next between to → Run world from (report ++ next ∷ []) to
run_more world [] next from between to run move = (to, subst (λ v. Moves world next v to) run move, refl)
run_more world (first ∷ later) next from between to run move =
    (run.0, run.1, run_more world later next run.0 between to run.2 move)
