-- Of every run it is told who is down.
use Rattle.std.proofs.Common.{ℕ, ◌<◌, List, [], sym, subst, arith}
use Rattle.arc_told.specs.Noted.{noted}
use Rattle.arc_told.specs.Parts.{TellsDown}
use Rattle.arc_told.specs.Report.{Asked, Reported}
use Rattle.arc_told.specs.Report.Reported.{FoundDown}
use Rattle.arc_told.specs.Run.{Each, IsBeforeEnd, IsStart, Run}
use Rattle.arc_told.specs.View.{View, World, len_in}
use Rattle.arc_told.proofs.Falling.{kept_is_small}
use Rattle.arc_told.proofs.Knowing.{Between, law_by}
use Rattle.arc_told.proofs.Lengths.{OwnFit, own_more, own_start}
use Rattle.arc_told.proofs.Standing.{goes_fits}

-- a call that found its endpoint down
found_down_told : (world : World) (before : List Reported) (asked : Asked) (node : ℕ) (old new : View) →
    Between world before (FoundDown asked node) old new → OwnFit world before old → TellsDown world before (FoundDown asked node)
found_down_told world before asked node old new step own =
    let small : node < 5 = subst (λ n. n < 5) (sym step.move.is_endpoint) step.move.goes.of_five in
    let room : len_in old node < world.slots =
    subst (λ n. len_in old n < world.slots) (sym step.move.is_endpoint) step.move.not_full in (
      step.move.is_endpoint,
      (goes_fits world node (noted world before node).standing (old.node node) (new.node node) (step.move.goes.all_go node small)
          (kept_is_small world new node small step.later.end) (step.later.end.within node small) (step.known.fits node small)).cause
          step.move.not_up,
      omega (arith, own node small, room),
    )

down_part : (world : World) (before : List Reported) (next : Reported) (old new : View) → Between world before next old new →
    OwnFit world before old → TellsDown world before next
down_part world before (FoundDown asked node) old new step own = found_down_told world before asked node old new step own
down_part world before next old new step own = tt

pub down_told : (world : World) (from to : View) (report : List Reported) → IsStart world from → Run world from report to →
    IsBeforeEnd world to → Each (TellsDown world) [] report
down_told world from to report start run end =
    law_by world (OwnFit world) (TellsDown world) (λ view starts. own_start world view starts)
    (λ before next old new step own. own_more world before next old new step own)
    (λ before next old new step own. down_part world before next old new step own) from to report start run end
