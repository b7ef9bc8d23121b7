use Rattle.std.proofs.Common.{drop}
use Rattle.std.specs.List.{AllByRecursion}
use Rattle.arc_command.specs.Typed.{IsShortZone}
use Rattle.arc_command.proofs.zones.are_short.Given as goal

abbrev pub invariant-loop-zone : goal.invariant-loop-zone
invariant-loop-zone l =
    AllByRecursion IsShortZone (drop l.zone-index l.zones) → AllByRecursion IsShortZone l.zones
