-- What the steps make of a snapshot.
use Rattle.std.specs.Prelude.{[], ◌∷◌, ◌++◌}
use Rattle.arc_snapshot.specs.declared.known.Version.{Version}
use Rattle.arc_snapshot.specs.declared.taken.Step.{Step}
use Rattle.arc_snapshot.specs.declared.taken.Step.TheVariants.{Do, Mark}

-- what one step makes of it
abbrev pub done : Version → Step → Version
done x (Do c) = record x { commands = x.commands ++ c ∷ [] }
done x (Mark front) = record x { recorded = front.list; sides = front.sides }
