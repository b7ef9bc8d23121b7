-- Of every run it is told that there is one history.
use Rattle.std.proofs.Common.{◌≡◌, ◌≢◌, ℕ, ◌<◌, List, AllPairs, sym, subst}
use Rattle.arc_data.specs.declared.command.Command.{Command}
use Rattle.arc_voting.specs.Growth.{Grows}
use Rattle.arc_voting.specs.Lists.{applied}
use Rattle.arc_voting.proofs.Agreeing.{sound_history, sound_ids}
use Rattle.arc_voting.proofs.Longest.{longest_is_one}
use Rattle.arc_told.specs.Parts.{end_list}
use Rattle.arc_told.specs.Report.{Reported}
use Rattle.arc_told.specs.Run.{IsBeforeEnd, IsStart, Run}
use Rattle.arc_told.specs.Told.{IsOneHistory}
use Rattle.arc_told.specs.View.{View, World}
use Rattle.arc_told.proofs.Growing.{extends_over, run_before_end}
use Rattle.arc_told.proofs.Lengths.{longest_grows}

-- the journals at the end begin with those at entry
entries_told : (world : World) (from : View) → IsStart world from → IsBeforeEnd world from → Grows world.at_entry world.at_end
entries_told world from start end j small =
    extends_over (world.at_entry j) (from.node j).kept (world.at_end j) (start.behind j small) (end.grow j small)

pub history_told : (world : World) (from to : View) (report : List Reported) → IsStart world from → Run world from report to →
    IsBeforeEnd world to → IsOneHistory world
history_told world from to report start run end =
    let ahead : IsBeforeEnd world from = run_before_end world report from to run end in
    let entries : Grows world.at_entry world.at_end = entries_told world from start ahead in
    let one : (node : ℕ) × (node < 5) × (end_list world ≡ applied (world.at_end node)) = longest_is_one world.at_end in
    record {
      sound = end.sound;
      entries = entries;
      history = sound_history world.at_end end.sound;
      list = longest_grows world.at_entry world.at_end end.sound entries;
      differ = subst (λ (l : List Command). AllPairs (λ (c d : Command). c.id ≢ d.id) l) (sym one.2) (sound_ids world.at_end end.sound one.0 one.1);
    }
