-- Nodes that handle their mail.
use Rattle.std.specs.Prelude.{ℕ, ◌≡◌, ◌<◌, ◌≤◌, Option, Some, None, List, [], ◌∷◌, ◌++◌, length, take}
use Rattle.arc_data.specs.declared.message.Message.{Message}
use Rattle.arc_data.specs.declared.record.Record.{Record}
use Rattle.arc_voting.specs.Journals.{Journals}
use Rattle.arc_voting.specs.Lawful.{Mail, IsLawful}
use Rattle.arc_voting.specs.Lists.{applied}
use Rattle.arc_voting.specs.Laws.{Begins}
use Rattle.arc_voting.specs.Sound.{IsSound}
use Rattle.arc_voting.specs.Turn.{Turn, IsTurn}

-- A journal after what a turn appends, if anything.
abbrev pub appended : List Record → Option Record → List Record
appended journal None = journal
appended journal (Some entry) = journal ++ entry ∷ []

-- A node that keeps the one journal handles these messages, one after another, and keeps the other one then.
abbrev pub Handles : List Message → List Record → List Record → Type 0
Handles [] journal after = after ≡ journal
Handles (message ∷ later) journal after =
    (turn : Turn) × IsTurn journal message turn × Handles later (appended journal turn.append) after

-- Each of the five nodes has handled the first messages of its mail, however many these are.
abbrev pub IsHandled : Journals → Mail → Journals → Type 0
IsHandled js mail after = (node : ℕ) → node < 5 → (count : ℕ) × Handles (take count (mail node)) (js node) (after node)

-- Whatever part of lawful mail each node has handled, sound journals are sound still.
abbrev pub LawfulMailKeepsSound : Type 0
LawfulMailKeepsSound =
    (js after : Journals) (mail : Mail) → IsSound js → IsLawful js mail → IsHandled js mail after → IsSound after

-- Whatever mail a node handles, what it applied before begins what it has applied then.
abbrev pub HistoriesOnlyGrow : Type 0
HistoriesOnlyGrow = (js after : Journals) (mail : Mail) (node : ℕ) → IsHandled js mail after → node < 5 →
    Begins (applied (js node)) (applied (after node))

-- Each front of what a node keeps then, from what it kept before on, is what it keeps after some of the messages.
abbrev pub FrontsAreHandled : Type 0
FrontsAreHandled = (messages : List Message) (journal after : List Record) (k : ℕ) → Handles messages journal after →
    length journal ≤ k → (count : ℕ) × Handles (take count messages) journal (take k after)
