-- What a proposer is, as plain data.
use Rattle.std.specs.Prelude.{ℕ, ◌≡◌, ◌==◌, ◌&&◌, Bool, true, false, IsTrue, IsNone, IsSome, if◌then◌else◌, Option, Some, None, is_none}
use Rattle.arc_bytes.specs.Five.{at, with}
use Rattle.arc_bytes.specs.declared.five.Five.{Five}
use Rattle.arc_data.specs.declared.command.Command.{Command}
use Rattle.arc_data.specs.declared.message.Answer.{Answer}
use Rattle.arc_data.specs.declared.message.Answer.TheVariants.{At, Known, Behind, Refused, Promise, Accepted, Learned}
use Rattle.arc_voting.specs.Proposal.{Promises}
use Rattle.arc_proposer.specs.Ballots.{least_above}
use Rattle.arc_proposer.specs.Highest.{by_node, highest_told}

-- An endpoint that wants to place its own command at a slot, with the highest ballot that it was shown, what each node's
-- counted promise told of its vote at the slot, and which nodes' votes are counted.
pub record Proposing : Type 0 where
  pub node : ℕ
  pub slot : ℕ
  pub own : Command
  pub shown : ℕ
  pub promises : Five (Option (Option (ℕ × Command)))
  pub votes : Five Bool

-- One value for each of five nodes.
abbrev pub for_each : {A : Type 0} → A → Five A
for_each value = record { d0 = value; d1 = value; d2 = value; d3 = value; d4 = value }

-- The endpoint begins, with its own promise shown.
abbrev pub begun : ℕ → ℕ → Command → ℕ → Proposing
begun node slot own promise =
    record { node = node; slot = slot; own = own; shown = promise; promises = for_each None; votes = for_each false }

-- The ballot: the least one of the endpoint's own above each that was shown.
abbrev pub ballot_of : Proposing → ℕ
ballot_of p = least_above p.node p.shown

-- The counted promises, by node, as the laws of sound journals speak of them.
abbrev pub promises_of : Proposing → Promises
promises_of p = at p.promises

-- No promise and no vote counts yet.
pub record HasNoneCounted (p : Proposing) : Type 0 where
  pub no_promise : p.promises ≡ for_each None
  pub no_vote : p.votes ≡ for_each false

-- The ballot that an answer to a status shows. Other answers show none.
abbrev pub shown_by : Answer → ℕ
shown_by (At length ballot known) = ballot
shown_by (Known slot c) = 0
shown_by (Behind length) = 0
shown_by (Refused ballot) = 0
shown_by (Promise slot ballot vote) = 0
shown_by (Accepted slot ballot) = 0
shown_by (Learned length) = 0

-- The slot and the ballot are those of the proposer.
abbrev pub is_of : Proposing → ℕ → ℕ → Bool
is_of p slot ballot = (slot == p.slot) && (ballot == ballot_of p)

-- After an answer: a promise of the slot and the ballot counts where it is the node's first, and nothing else changes.
unfoldable pub with_promise : Proposing → ℕ → Answer → Proposing
with_promise p peer (At length ballot known) = p
with_promise p peer (Known slot c) = p
with_promise p peer (Behind length) = p
with_promise p peer (Refused ballot) = p
with_promise p peer (Promise slot ballot vote) =
    if is_of p slot ballot && is_none (at p.promises peer) then record p { promises = with p.promises peer (Some vote) } else p
with_promise p peer (Accepted slot ballot) = p
with_promise p peer (Learned length) = p

-- The answer is a promise that counts, of the slot and the ballot and the node's first, and it tells a vote: then the vote
-- is copied.
abbrev pub CopiesVote : Proposing → ℕ → Answer → Type 0
CopiesVote p peer (At length ballot known) = ⊥
CopiesVote p peer (Known slot c) = ⊥
CopiesVote p peer (Behind length) = ⊥
CopiesVote p peer (Refused ballot) = ⊥
CopiesVote p peer (Promise slot ballot vote) = IsTrue (is_of p slot ballot) × IsNone (at p.promises peer) × IsSome vote
CopiesVote p peer (Accepted slot ballot) = ⊥
CopiesVote p peer (Learned length) = ⊥

-- After an answer: a vote at the slot and in the ballot counts, and nothing else changes.
unfoldable pub with_vote : Proposing → ℕ → Answer → Proposing
with_vote p peer (At length ballot known) = p
with_vote p peer (Known slot c) = p
with_vote p peer (Behind length) = p
with_vote p peer (Refused ballot) = p
with_vote p peer (Promise slot ballot vote) = p
with_vote p peer (Accepted slot ballot) = if is_of p slot ballot then record p { votes = with p.votes peer true } else p
with_vote p peer (Learned length) = p

-- The command of the vote, or the own one where there is none.
abbrev pub command_of : Command → Option (ℕ × Command) → Command
command_of own None = own
command_of own (Some vote) = vote.1

-- What is proposed: the command of the told vote of highest ballot, of equal ones that of the least node, and the own
-- command where none was told.
abbrev pub proposed_by : Proposing → Command
proposed_by p = command_of p.own (highest_told (by_node p.promises))
