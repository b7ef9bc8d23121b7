-- What keeps ids in order, and starts.
use Rattle.std.specs.Prelude.{ℕ, ◌≡◌, ◌≢◌, ◌<◌, ◌≤◌, ◌+◌, [], ◌∷◌}
use Rattle.arc_ids.specs.declared.command_id.CommandId.{CommandId}
use Rattle.arc_data.specs.declared.command.Command.{Command}
use Rattle.arc_data.specs.declared.record.Record.TheVariants.{Opened}
use Rattle.arc_voting.specs.Journals.{Journals, with_entry, opened_count, last_inc, since_opened}
use Rattle.arc_voting.specs.Growth.{Grows, HasVote}
use Rattle.arc_voting.specs.Handled.{IsHandled}
use Rattle.arc_voting.specs.Ids.{IdsAreInOrder, IsDrawn, HasNoVoteOf, HasNoChosenOf}
use Rattle.arc_voting.specs.Lawful.{Mail, IsLawful, IsDrawnInOrder}
use Rattle.arc_voting.specs.Sound.{IsSound}

-- Whatever part of lawful mail each node has handled, a node's ids stay in order.
abbrev pub LawfulMailKeepsOrder : Type 0
LawfulMailKeepsOrder = (js after : Journals) (mail : Mail) (node : ℕ) → IsSound js → IsLawful js mail → IsHandled js mail after →
    node < 5 → IdsAreInOrder (js node) node → IdsAreInOrder (after node) node

-- Whatever mail a node handles, its last start stays, and no entry after it is lost: so an id that was drawn is still no
-- further on than they are.
abbrev pub HandlingKeepsStarts : Type 0
HandlingKeepsStarts = (js after : Journals) (mail : Mail) (node : ℕ) → IsHandled js mail after → node < 5 →
    (last_inc (after node) ≡ last_inc (js node)) × (since_opened (js node) ≤ since_opened (after node))
    × ((c : Command) → IsDrawnInOrder (js node) node c → IsDrawnInOrder (after node) node c)

-- Where a node's ids are in order, no vote of sound journals and no chosen command has an id that the node draws now.
abbrev pub DrawnIdsAreNew : Type 0
DrawnIdsAreNew = (js : Journals) (node : ℕ) (id : CommandId) → IsSound js → node < 5 → IdsAreInOrder (js node) node →
    IsDrawn (js node) node id → HasNoVoteOf js id × HasNoChosenOf js id

-- Where a node's ids are in order, each command that has a vote in sound journals has an id that is so at this node.
abbrev pub VotedAreInOrder : Type 0
VotedAreInOrder = (js : Journals) (node : ℕ) (c : Command) → IsSound js → node < 5 → IdsAreInOrder (js node) node →
    HasVote js c → IsDrawnInOrder (js node) node c

-- Each of the five nodes has its first start, and nothing else.
abbrev pub AreFirstStarts : Journals → Type 0
AreFirstStarts js = (node : ℕ) → node < 5 → js node ≡ Opened 1 ∷ []

-- The journals, with the next start of this node behind its journal.
abbrev pub with_start : Journals → ℕ → Journals
with_start js node = with_entry js node (Opened (opened_count (js node) + 1))

-- First starts are sound, and their ids are in order.
abbrev pub FirstStartsAreSound : Type 0
FirstStartsAreSound = (js : Journals) → AreFirstStarts js →
    IsSound js × ((node : ℕ) → node < 5 → IdsAreInOrder (js node) node)

-- The next start of a node keeps sound journals sound; behind it the node's ids are in order, and those of another node
-- are so where they were.
abbrev pub NextStartKeepsSound : Type 0
NextStartKeepsSound = (js : Journals) (node : ℕ) → IsSound js → node < 5 →
    IsSound (with_start js node) × IdsAreInOrder (with_start js node node) node
    × ((other : ℕ) → other < 5 → other ≢ node → IdsAreInOrder (js other) other → IdsAreInOrder (with_start js node other) other)

-- By it the journals only grow, and no command gets a vote that had none.
abbrev pub NextStartOnlyGrows : Type 0
NextStartOnlyGrows = (js : Journals) (node : ℕ) →
    Grows js (with_start js node) × ((c : Command) → HasVote (with_start js node) c → HasVote js c)
