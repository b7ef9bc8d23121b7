-- Mail that keeps sound journals sound, whoever handles how much of it.
use Rattle.std.specs.Prelude.{ℕ, ◌≡◌, ◌≢◌, ◌<◌, ◌≤◌, ◌+◌, ◌*◌, ◌%◌, ◌⊎◌, ⊤, List, [], ◌∷◌, Contains}
use Rattle.arc_data.specs.Entries.{promise}
use Rattle.arc_data.specs.declared.command.Command.{Command}
use Rattle.arc_data.specs.declared.message.Message.{Message}
use Rattle.arc_data.specs.declared.message.Message.TheVariants.{Status, Prepare, Accept, Learn}
use Rattle.arc_data.specs.declared.record.Record.{Record}
use Rattle.arc_data.specs.declared.record.Record.TheVariants.{Voted}
use Rattle.arc_voting.specs.Journals.{Journals, promises_of, with_entry, last_inc, since_opened}
use Rattle.arc_voting.specs.Chosen.{HoldsVote, IsChosen}
use Rattle.arc_voting.specs.Sound.{IsSound}

-- The messages to each node, in order.
abbrev pub Mail : Type 0
Mail = ℕ → List Message

-- The mail is this one message, to this node.
abbrev pub IsAlone : Mail → ℕ → Message → Type 0
IsAlone mail node message =
    (mail node ≡ message ∷ []) × ((other : ℕ) → other < 5 → other ≢ node → mail other ≡ [])

-- An id that this node draws in its present start is no further on than the entries after that start.
abbrev pub IsDrawnInOrder : List Record → ℕ → Command → Type 0
IsDrawnInOrder journal node c =
    c.id.node ≡ node → c.id.inc ≡ last_inc journal → c.id.n ≤ since_opened journal

-- The node's own new vote keeps the journals sound, and its command's id is in order.
abbrev pub MayBeginVote : Journals → ℕ → ℕ → ℕ → Command → Type 0
MayBeginVote js node slot ballot c =
    IsSound (with_entry js node (Voted slot ballot c)) × IsDrawnInOrder (js node) node c

-- The ballot's owner may be asked to vote, alone: what it promised is higher, so that it appends nothing, or its vote is
-- a new one that may begin.
pub record IsOwnVote (js : Journals) (mail : Mail) (node slot ballot : ℕ) (c : Command) : Type 0 where
  pub owner : node ≡ ballot % 5
  pub alone : IsAlone mail node (Accept slot ballot c)
  pub harmless : (ballot < promise (js node)) ⊎ MayBeginVote js node slot ballot c

-- A message to a node is lawful. A promise is asked for in a ballot that it may have; a vote where the ballot's owner
-- voted so, or for an owner's own; and only what is chosen is told.
abbrev pub IsLawfulTo : Journals → Mail → ℕ → Message → Type 0
IsLawfulTo js mail node (Status slot) = ⊤
IsLawfulTo js mail node (Prepare slot ballot) = (1 ≤ ballot) × (ballot ≤ 5 * (promises_of js + 1))
IsLawfulTo js mail node (Accept slot ballot c) =
    HoldsVote (js (ballot % 5)) slot ballot c ⊎ IsOwnVote js mail node slot ballot c
IsLawfulTo js mail node (Learn slot c) = IsChosen js slot c

-- A message that stays lawful to each node, whatever is handled first: a promise is asked for in a ballot that it may
-- have, a vote where the ballot's owner voted so, and only what is chosen is told.
abbrev pub StaysLawful : Journals → Message → Type 0
StaysLawful js (Status slot) = ⊤
StaysLawful js (Prepare slot ballot) = (1 ≤ ballot) × (ballot ≤ 5 * (promises_of js + 1))
StaysLawful js (Accept slot ballot c) = HoldsVote (js (ballot % 5)) slot ballot c
StaysLawful js (Learn slot c) = IsChosen js slot c

-- Every message stays lawful.
abbrev pub AllStaysLawful : Journals → Mail → Type 0
AllStaysLawful js mail = (node : ℕ) (message : Message) → node < 5 → Contains (mail node) message → StaysLawful js message

-- Every message is lawful for these journals.
abbrev pub IsLawful : Journals → Mail → Type 0
IsLawful js mail = (node : ℕ) (message : Message) → node < 5 → Contains (mail node) message → IsLawfulTo js mail node message
