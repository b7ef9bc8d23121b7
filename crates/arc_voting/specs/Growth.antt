-- Journals that stay the same, and journals that grow.
use Rattle.std.specs.Prelude.{ℕ, ◌≡◌, ◌<◌, List, ◌++◌}
use Rattle.arc_data.specs.declared.command.Command.{Command}
use Rattle.arc_data.specs.declared.record.Record.{Record}
use Rattle.arc_voting.specs.Journals.{Journals}
use Rattle.arc_voting.specs.Chosen.{HoldsVote, IsChosen}
use Rattle.arc_voting.specs.Laws.{Begins}
use Rattle.arc_voting.specs.Lists.{applied}
use Rattle.arc_voting.specs.Sound.{IsSound}

-- The five journals are the same.
abbrev pub AreSame : Journals → Journals → Type 0
AreSame js ks = (n : ℕ) → n < 5 → ks n ≡ js n

-- Each of the five journals begins the later one of its node.
abbrev pub Grows : Journals → Journals → Type 0
Grows js ks = (node : ℕ) → node < 5 → (more : List Record) × (ks node ≡ js node ++ more)

-- Some journal holds a vote for the command.
abbrev pub HasVote : Journals → Command → Type 0
HasVote js c = (node slot ballot : ℕ) × (node < 5) × HoldsVote (js node) slot ballot c

-- A chosen command has a vote.
abbrev pub ChosenHaveVotes : Type 0
ChosenHaveVotes = (js : Journals) (slot : ℕ) (c : Command) → IsChosen js slot c → HasVote js c

-- Journals that are the same at the five nodes are sound together.
abbrev pub SameAreSound : Type 0
SameAreSound = (js ks : Journals) → AreSame js ks → IsSound js → IsSound ks

-- A vote that stands stands in all later journals.
abbrev pub VotesStay : Type 0
VotesStay = (js ks : Journals) (node slot ballot : ℕ) (c : Command) → Grows js ks → node < 5 →
    HoldsVote (js node) slot ballot c → HoldsVote (ks node) slot ballot c

-- What was chosen is chosen in all later journals.
abbrev pub ChosenStay : Type 0
ChosenStay = (js ks : Journals) (slot : ℕ) (c : Command) → Grows js ks → IsChosen js slot c → IsChosen ks slot c

-- What a node applied begins what it has applied in all later journals.
abbrev pub AppliedOnlyGrow : Type 0
AppliedOnlyGrow = (js ks : Journals) (node : ℕ) → Grows js ks → node < 5 → Begins (applied (js node)) (applied (ks node))
