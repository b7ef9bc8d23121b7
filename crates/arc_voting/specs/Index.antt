-- What an index of identifiers says of the entries.
use Rattle.std.specs.Prelude.{ℕ, ◌≡◌, ◌<◌, ◌≤◌, ◌+◌, ◌*◌, ⊤, Option, Some, IfSome, MatchOption, List, All}
use Rattle.std.specs.List.{slice_get}
use Rattle.std.specs.Ordering.{nat_cmp}
use Rattle.std.specs.BTreeMap.{BTreeMap, get}
use Rattle.arc_bytes.specs.Five.{at}
use Rattle.arc_bytes.specs.declared.five.Five.{Five}
use Rattle.arc_ids.specs.declared.command_id.CommandId.{CommandId}
use Rattle.arc_data.specs.declared.command.Command.{Command}
use Rattle.arc_data.specs.declared.record.Record.{Record}
use Rattle.arc_data.specs.declared.record.Record.TheVariants.{Opened, Promised, Voted, Closed}
use Rattle.arc_voting.specs.declared.index.Begun.{Begun}
use Rattle.arc_voting.specs.Journals.{Journals}
use Rattle.arc_voting.specs.Chosen.{IsVoteWith}

-- An identifier of one node as one number.
abbrev pub number_of_id : CommandId → ℕ
number_of_id id = id.inc * 4294967296 + id.n

-- What the index says of an identifier.
abbrev pub begun_in : Five (BTreeMap ℕ Begun) → CommandId → Option Begun
begun_in index id = get nat_cmp (at index id.node) (number_of_id id)

-- A vote for the command stands at this place.
abbrev pub IsVoteAt : List Record → ℕ → Command → Type 0
IsVoteAt journal place c = MatchOption (slice_get journal place) ⊥ (λ entry. IsVoteWith entry (λ slot ballot d. d ≡ c))

-- The command begins there: with a vote behind the start that its id tells.
pub record BeganAt (journal : List Record) (c : Command) (begun : Begun) : Type 0 where
  pub order : begun.start < begun.vote
  pub opened : slice_get journal begun.start ≡ Some (Opened c.id.inc)
  pub voted : IsVoteAt journal begun.vote c

-- The index says where the command of a vote at this slot begins, and no lower slot that it closes.
pub record IsKnownVote (js : Journals) (index : Five (BTreeMap ℕ Begun)) (slot : ℕ) (c : Command) : Type 0 where
  pub of_five : c.id.node < 5
  pub begun : Begun
  pub says : begun_in index c.id ≡ Some begun
  pub began : BeganAt (js c.id.node) c begun
  pub closed : IfSome begun.closed (λ its_slot. slot ≤ its_slot)

-- The index says that the command closes this slot.
pub record IsKnownClosed (index : Five (BTreeMap ℕ Begun)) (slot : ℕ) (c : Command) : Type 0 where
  pub begun : Begun
  pub says : begun_in index c.id ≡ Some begun
  pub closed : begun.closed ≡ Some slot

-- The index says what is needed of this entry.
unfoldable pub IsKnown : Journals → Five (BTreeMap ℕ Begun) → Record → Type 0
IsKnown js index (Opened inc) = ⊤
IsKnown js index (Promised from ballot) = ⊤
IsKnown js index (Voted slot ballot c) = IsKnownVote js index slot c
IsKnown js index (Closed slot c) = IsKnownClosed index slot c

-- It says so of every entry.
abbrev pub AreKnown : Journals → Five (BTreeMap ℕ Begun) → Type 0
AreKnown js index = (node : ℕ) → node < 5 → All (IsKnown js index) (js node)
