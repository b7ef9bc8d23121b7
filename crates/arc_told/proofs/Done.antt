-- Where all steps are done, all of it is told, and which lengths still hold.
use Rattle.std.proofs.Common.{None, List}
use Rattle.arc_told.specs.Parts.{TellsEnd}
use Rattle.arc_told.specs.Report.{Reported}
use Rattle.arc_told.specs.Run.{EndsBy, IsStart, Run}
use Rattle.arc_told.specs.Told.{Told}
use Rattle.arc_told.specs.View.{EndsAs, IsInOrder, View, World}
use Rattle.arc_told.proofs.Ending.{before_end, end_told, run_in_order}
use Rattle.arc_told.proofs.Whole.{run_told}

-- and nothing was begun since
nothing_begun : (world : World) (view : View) → EndsAs world view → EndsBy world None view
nothing_begun world view ends c vote = (world.at_end, ends, vote)

pub done_told : (world : World) (from to : View) (report : List Reported) → IsStart world from → Run world from report to →
    EndsAs world to → Told world report None × TellsEnd world report
done_told world from to report start run ends =
    let order : IsInOrder world to = run_in_order world report from to start.in_order run in (
      run_told world from to report None start run (before_end world to order ends) (nothing_begun world to ends),
      end_told world from to report start run ends,
    )
