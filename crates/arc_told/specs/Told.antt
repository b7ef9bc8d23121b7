-- What a report tells of a run, all of it.
use Rattle.std.specs.Prelude.{◌≢◌, Option, List, [], AllPairs}
use Rattle.arc_voting.specs.Growth.{Grows}
use Rattle.arc_voting.specs.Laws.{Begins, HaveOneHistory}
use Rattle.arc_voting.specs.Lists.{longest}
use Rattle.arc_voting.specs.Sound.{IsSound}
use Rattle.arc_told.specs.Obeying.{ObeysRules}
use Rattle.arc_told.specs.Parts.{ComesFrom, TellsDeliveries, TellsDown, TellsEnough, TellsFull, TellsLists, TellsPlaces, TellsStarts, TellsUnavailable, end_list}
use Rattle.arc_told.specs.Report.{Asked, Reported}
use Rattle.arc_told.specs.Run.{Each}
use Rattle.arc_told.specs.View.{World}

-- The journals at the end are sound; each begins with what it was at entry, and so does the longest list; of two lists one begins the
-- other; and no two commands of the longest have one identifier.
pub record IsOneHistory (world : World) : Type 0 where
  pub sound : IsSound world.at_end
  pub entries : Grows world.at_entry world.at_end
  pub history : HaveOneHistory world.at_end
  pub list : Begins (longest world.at_entry) (end_list world)
  pub differ : AllPairs (λ c d. c.id ≢ d.id) (end_list world)

-- These steps and their lines tell what happened, by themes. A call may have been begun behind them that has no line.
pub record Told (world : World) (report : List Reported) (begun : Option Asked) : Type 0 where
  pub history : IsOneHistory world
  pub origin : ComesFrom world report begun
  pub places : Each (TellsPlaces world) [] report
  pub enough : Each (TellsEnough world) [] report
  pub full : Each (TellsFull world) [] report
  pub down : Each (TellsDown world) [] report
  pub unavailable : Each (TellsUnavailable world) [] report
  pub lists : Each (TellsLists world) [] report
  pub starts : Each (TellsStarts world) [] report
  pub deliveries : Each (TellsDeliveries world) [] report
  pub rules : ObeysRules (end_list world)
