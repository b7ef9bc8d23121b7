-- Of every run all of it is told.
use Rattle.std.proofs.Common.{Option, List}
use Rattle.arc_told.specs.Parts.{end_list}
use Rattle.arc_told.specs.Report.{Asked, Reported}
use Rattle.arc_told.specs.Run.{EndsBy, IsBeforeEnd, IsStart, Run}
use Rattle.arc_told.specs.Told.{Told}
use Rattle.arc_told.specs.View.{View, World}
use Rattle.arc_told.proofs.Delivering.{deliveries_told}
use Rattle.arc_told.proofs.Down.{down_told}
use Rattle.arc_told.proofs.Full.{full_told}
use Rattle.arc_told.proofs.History.{history_told}
use Rattle.arc_told.proofs.Lists.{lists_told}
use Rattle.arc_told.proofs.Obeyed.{obeys_rules}
use Rattle.arc_told.proofs.Owing.{unavailable_told}
use Rattle.arc_told.proofs.Places.{places_told}
use Rattle.arc_told.proofs.Silence.{enough_told}
use Rattle.arc_told.proofs.Starts.{starts_told}
use Rattle.arc_told.proofs.Timely.{origin_told}

pub run_told : (world : World) (from to : View) (report : List Reported) (begun : Option Asked) → IsStart world from →
    Run world from report to → IsBeforeEnd world to → EndsBy world begun to → Told world report begun
run_told world from to report begun start run end ends = record {
  history = history_told world from to report start run end;
  origin = origin_told world from to report begun start run end ends;
  places = places_told world from to report start run end;
  enough = enough_told world from to report start run end;
  full = full_told world from to report start run end;
  down = down_told world from to report start run end;
  unavailable = unavailable_told world from to report start run end;
  lists = lists_told world from to report start run end;
  starts = starts_told world from to report start run end;
  deliveries = deliveries_told world from to report start run end;
  rules = obeys_rules (end_list world);
}
