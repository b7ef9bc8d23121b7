-- The rule of the sides: what holds of the published list and of all that readers know between any two steps.
use Rattle.std.specs.Prelude.{◌≡◌, ◌≤◌, ◌⊎◌, ℕ, List, [], ◌∷◌, ◌++◌, length, All}
use mathlib.Core.Option.{some}
use mathlib.Core.List.{IsPrefix}
use lib.ListN.{get_elem?}
use Rattle.arc_data.specs.declared.command.Command.{Command}
use Rattle.arc_snapshot.specs.declared.known.Known.{Known}
use Rattle.arc_snapshot.specs.declared.known.Version.{Version}

-- a reader of these sides that has entered nothing and was told of nothing
abbrev pub newcomer : List ℕ → Known
newcomer sides = record { seen = []; lengths = []; told = []; sides = sides }

-- a seat that nobody has named yet
abbrev pub stranger : Known
stranger = newcomer []

-- What a reader has seen begins the published list, and so does what it was told of; no list that it entered was longer;
-- and it is of these sides, if it knows of any.
abbrev pub IsTrueOf : Version → Known → Type 0
IsTrueOf x v =
    IsPrefix v.seen x.commands × IsPrefix v.told x.commands × All (λ n. n ≤ length v.seen) v.lengths
    × ((v.sides ≡ []) ⊎ (v.sides ≡ x.sides))

-- The rule: the published list was recorded, and it begins with all that any reader has seen or was told of. So all
-- these are beginnings of one list.
abbrev pub Keeps : Version → List Known → Type 0
Keeps x views =
    IsPrefix x.commands x.recorded × ((seat : ℕ) (v : Known) → get_elem? views seat ≡ some v → IsTrueOf x v)

-- what a reader knows that has entered a list
abbrev pub after_read : Known → List Command → Known
after_read v list = record v { seen = list; lengths = v.lengths ++ length list ∷ [] }

-- what a reader knows that was told of a list
abbrev pub after_telling : Known → List Command → Known
after_telling v list = record v { seen = list; told = list }

-- a read enters the published list
abbrev pub Entered : Known → Version → Version → Known → Type 0
Entered v x same w = IsTrueOf x v × (w ≡ after_read v x.commands)

-- a reader is told of the published list, which was recorded
abbrev pub Heard : Known → Version → Version → Known → Type 0
Heard v x same w = IsTrueOf x v × IsPrefix x.commands x.recorded × (w ≡ after_telling v x.commands)

-- the published list goes on, and its writer learns of which sides it is
abbrev pub Published : Known → Version → Version → Known → Type 0
Published v x y w = w ≡ record v { sides = y.sides }

-- a seat learns from another of which sides it is
abbrev pub named : Known → Known → Known
named v w = record v { sides = w.sides }
