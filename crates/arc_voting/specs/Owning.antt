-- Which command a node may begin.
use Rattle.std.specs.Prelude.{ℕ, ◌≡◌, ◌<◌, ◌⊎◌, Contains}
use Rattle.arc_data.specs.Entries.{closed_len}
use Rattle.arc_data.specs.declared.command.Command.{Command}
use Rattle.arc_voting.specs.Journals.{Journals, last_inc}
use Rattle.arc_voting.specs.Growth.{HasVote}
use Rattle.arc_voting.specs.Ids.{IdsAreInOrder, IsDrawn, IsAloneWithItsId}
use Rattle.arc_voting.specs.Lawful.{IsDrawnInOrder, MayBeginVote}
use Rattle.arc_voting.specs.Lists.{applied}
use Rattle.arc_voting.specs.Proposal.{Promises, IsProposal, IsOwn, MayPropose}
use Rattle.arc_voting.specs.Settled.{HoldsNoVote}
use Rattle.arc_voting.specs.Sound.{IsSound}

-- A command that has a vote in sound journals is alone with its id.
abbrev pub VotedIsAlone : Type 0
VotedIsAlone = (js : Journals) (c : Command) → IsSound js → HasVote js c → IsAloneWithItsId js c

-- A command stays alone with its id where no other command but those that had a vote has one then.
abbrev pub AloneStays : Type 0
AloneStays = (js after : Journals) (c : Command) → ((d : Command) → HasVote after d → HasVote js d ⊎ (d ≡ c)) →
    IsAloneWithItsId js c → IsAloneWithItsId after c

-- A command of the node's present start that each vote with its id is for, and that the node hasn't applied, may begin at
-- the node's open slot.
abbrev pub UnappliedMayBegin : Type 0
UnappliedMayBegin = (js : Journals) (node : ℕ) (c : Command) → IsSound js → node < 5 → c.id.node ≡ node →
    c.id.inc ≡ last_inc (js node) → IsAloneWithItsId js c → ¬ Contains (applied (js node)) c →
    IsOwn js node (closed_len (js node)) c

-- So may one whose id the node draws now, where its ids are in order.
abbrev pub DrawnMayBegin : Type 0
DrawnMayBegin = (js : Journals) (node : ℕ) (c : Command) → IsSound js → node < 5 → IdsAreInOrder (js node) node →
    IsDrawn (js node) node c.id → IsOwn js node (closed_len (js node)) c

-- Where an endpoint may propose, holds no vote in that ballot, has its ids in order, and its own command is so, its vote
-- for the proposal may begin.
abbrev pub ProposalMayBegin : Type 0
ProposalMayBegin =
    (js : Journals) (promises : Promises) (endpoint slot ballot : ℕ) (own c : Command) → IsSound js →
    MayPropose js promises endpoint slot ballot own → IsProposal promises own c → HoldsNoVote (js endpoint) slot ballot →
    IdsAreInOrder (js endpoint) endpoint → IsDrawnInOrder (js endpoint) endpoint own → MayBeginVote js endpoint slot ballot c
