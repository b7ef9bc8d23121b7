-- The highest vote that was told.
use Rattle.std.specs.Prelude.{ℕ, Option, Some, None, List, [], ◌∷◌}
use Rattle.std.specs.List.{filter_map}
use Rattle.arc_bytes.specs.declared.five.Five.{Five}
use Rattle.arc_data.specs.Entries.{highest}
use Rattle.arc_data.specs.declared.command.Command.{Command}

-- The vote that a node's counted promise told, if it is counted and told one.
abbrev pub told_in : Option (Option (ℕ × Command)) → Option (ℕ × Command)
told_in None = None
told_in (Some vote) = vote

-- What each node's counted promise told, in the order of nodes.
abbrev pub by_node : Five (Option (Option (ℕ × Command))) → List (Option (Option (ℕ × Command)))
by_node five = five.d0 ∷ five.d1 ∷ five.d2 ∷ five.d3 ∷ five.d4 ∷ []

-- The vote of highest ballot among those told, and of equal ones that of the first.
abbrev pub highest_told : List (Option (Option (ℕ × Command))) → Option (ℕ × Command)
highest_told promises = highest (filter_map told_in promises)
