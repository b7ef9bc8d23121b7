-- What the identifiers of commands promise.
use Rattle.std.specs.Prelude.{ℕ, ◌≡◌, ◌≢◌, ◌<◌, ◌≤◌, ◌+◌, Some, List, All, Any, drop, take}
use Rattle.std.specs.List.{slice_get}
use Rattle.arc_ids.specs.declared.command_id.CommandId.{CommandId}
use Rattle.arc_data.specs.declared.command.Command.{Command}
use Rattle.arc_data.specs.declared.record.Record.{Record}
use Rattle.arc_data.specs.declared.record.Record.TheVariants.{Opened}
use Rattle.arc_voting.specs.Journals.{Journals, last_inc, since_opened}
use Rattle.arc_voting.specs.Chosen.{OnVote, IsVoteWith, HoldsVote, IsChosen}

-- Some vote among these entries is for this command.
abbrev pub VotesFor : List Record → Command → Type 0
VotesFor entries c = Any (λ entry. IsVoteWith entry (λ slot ballot d. d ≡ c)) entries

-- The journal holds the start with this number and, after it, a vote for the command.
abbrev pub VotesSince : List Record → ℕ → Command → Type 0
VotesSince journal inc c =
    (place : ℕ) × (slice_get journal place ≡ Some (Opened inc)) × VotesFor (drop (place + 1) journal) c

-- A command starts at the node of its id: this is one of the five, and it voted for the command after it was started
-- for the time that the id tells.
abbrev pub StartsAtItsNode : Journals → Command → Type 0
StartsAtItsNode js c = (c.id.node < 5) × VotesSince (js c.id.node) c.id.inc c

-- No vote among these entries has the id of the command and is for another one.
abbrev pub HasNoDouble : List Record → Command → Type 0
HasNoDouble entries c = All (λ entry. OnVote entry (λ slot ballot d. d.id ≡ c.id → d ≡ c)) entries

-- No vote before this place, by node and then place, has the id of the command and is for another one.
abbrev pub HasNoEarlierDouble : Journals → ℕ → ℕ → Command → Type 0
HasNoEarlierDouble js node place c =
    ((n : ℕ) → n < node → HasNoDouble (js n) c) × HasNoDouble (take place (js node)) c

-- No command with this command's id is chosen in a slot below this one.
abbrev pub IsNotChosenBelow : Journals → ℕ → Command → Type 0
IsNotChosenBelow js slot c = (lower : ℕ) (d : Command) → lower < slot → IsChosen js lower d → d.id ≢ c.id

-- The ids of a node's present start are in order: each vote in its journal whose command's id has this node and its last
-- start has a number below the number of entries after that start.
abbrev pub IdsAreInOrder : List Record → ℕ → Type 0
IdsAreInOrder journal node =
    (slot ballot : ℕ) (c : Command) → HoldsVote journal slot ballot c → c.id.node ≡ node → c.id.inc ≡ last_inc journal →
    c.id.n < since_opened journal

-- An id that this node draws now: of its last start, and no less far on than the entries after that start.
pub record IsDrawn (journal : List Record) (node : ℕ) (id : CommandId) : Type 0 where
  pub home : id.node ≡ node
  pub start : id.inc ≡ last_inc journal
  pub next : since_opened journal ≤ id.n

-- No vote of the five journals is for a command with this id.
abbrev pub HasNoVoteOf : Journals → CommandId → Type 0
HasNoVoteOf js id = (node slot ballot : ℕ) (c : Command) → node < 5 → HoldsVote (js node) slot ballot c → c.id ≢ id

-- No chosen command has this id.
abbrev pub HasNoChosenOf : Journals → CommandId → Type 0
HasNoChosenOf js id = (slot : ℕ) (c : Command) → IsChosen js slot c → c.id ≢ id

-- Each vote of the five journals whose command has this command's id is for this command.
abbrev pub IsAloneWithItsId : Journals → Command → Type 0
IsAloneWithItsId js c = (node slot ballot : ℕ) (d : Command) → node < 5 → HoldsVote (js node) slot ballot d → d.id ≡ c.id → d ≡ c
