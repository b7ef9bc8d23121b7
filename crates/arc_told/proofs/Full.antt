-- Of every run it is told when the list is full.
use Rattle.std.proofs.Common.{List, [], ◌≤◌, length, arith}
use Rattle.std.specs.Prelude.{⊤}
use Rattle.arc_told.specs.Parts.{TellsFull, end_len, end_list}
use Rattle.arc_told.specs.Report.{Reported}
use Rattle.arc_told.specs.Report.Reported.{FoundFull}
use Rattle.arc_told.specs.Run.{Each, IsBeforeEnd, IsStart, Run}
use Rattle.arc_told.specs.View.{View, World, len_in}
use Rattle.arc_told.proofs.Knowing.{Between, law_by}
use Rattle.arc_told.proofs.Lengths.{end_has_room, end_is_long, own_before_end}

full_part : (world : World) (before : List Reported) (next : Reported) (old new : View) → Between world before next old new →
    TellsFull world before next
full_part world before (FoundFull asked len) old new step =
    let long : len_in new asked.endpoint ≤ end_len world asked.endpoint =
    own_before_end world new asked.endpoint step.later.end step.move.goes.of_five in
    let longer : end_len world asked.endpoint ≤ length (end_list world) =
    end_is_long world new asked.endpoint step.later.end step.move.goes.of_five in
    let room : length (end_list world) ≤ world.slots = end_has_room world new step.later.end in
    (step.move.all, omega (arith, step.move.all, step.move.counted, long, longer, room))
full_part world before next old new step = tt

pub full_told : (world : World) (from to : View) (report : List Reported) → IsStart world from → Run world from report to →
    IsBeforeEnd world to → Each (TellsFull world) [] report
full_told world from to report start run end =
    law_by world (λ before view. ⊤) (TellsFull world) (λ view starts. tt) (λ before next old new step known. tt)
    (λ before next old new step known. full_part world before next old new step) from to report start run end
