-- What sound journals promise: one command a slot, one history, and no message that changes that.
use Rattle.std.specs.Prelude.{ℕ, ◌≡◌, ◌≢◌, ◌<◌, ◌⊎◌, Some, List, ◌++◌, AllPairs}
use Rattle.std.specs.List.{slice_get}
use Rattle.arc_data.specs.declared.command.Command.{Command}
use Rattle.arc_voting.specs.Journals.{Journals}
use Rattle.arc_voting.specs.Chosen.{IsChosen}
use Rattle.arc_voting.specs.Lists.{applied, longest}
use Rattle.arc_voting.specs.Sound.{IsSound}

-- Two commands that are chosen at one slot are equal.
abbrev pub ChosenAreEqual : Journals → Type 0
ChosenAreEqual js = (slot : ℕ) (c d : Command) → IsChosen js slot c → IsChosen js slot d → c ≡ d

-- A list begins another one, or is it.
abbrev pub Begins : List Command → List Command → Type 0
Begins former later = (rest : List Command) × (former ++ rest ≡ later)

-- Of the lists that two nodes applied one begins the other.
abbrev pub HaveOneHistory : Journals → Type 0
HaveOneHistory js = (node other : ℕ) → node < 5 → other < 5 →
    Begins (applied (js node)) (applied (js other)) ⊎ Begins (applied (js other)) (applied (js node))

-- The commands of each applied list have different identifiers.
abbrev pub IdsDiffer : Journals → Type 0
IdsDiffer js = (node : ℕ) → node < 5 → AllPairs (λ c d. c.id ≢ d.id) (applied (js node))

-- The longest list is that of one of the five nodes.
abbrev pub LongestIsOne : Type 0
LongestIsOne = (js : Journals) → (node : ℕ) × (node < 5) × (longest js ≡ applied (js node))

-- Each applied list of sound journals begins the longest one.
abbrev pub EachBeginsTheLongest : Type 0
EachBeginsTheLongest = (js : Journals) (node : ℕ) → IsSound js → node < 5 → Begins (applied (js node)) (longest js)

-- Each command of the longest list of sound journals is chosen, at its place.
abbrev pub LongestAreChosen : Type 0
LongestAreChosen = (js : Journals) (slot : ℕ) (c : Command) → IsSound js → slice_get (longest js) slot ≡ Some c → IsChosen js slot c

-- Where each applied list only grew and the later journals are sound, the longest list only grew.
abbrev pub LongestOnlyGrows : Type 0
LongestOnlyGrows = (js ks : Journals) → IsSound ks → ((node : ℕ) → node < 5 → Begins (applied (js node)) (applied (ks node))) →
    Begins (longest js) (longest ks)
