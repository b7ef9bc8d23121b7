-- What an endpoint may propose, and what its proposal keeps.
use Rattle.std.specs.Prelude.{ℕ, ◌≡◌, ◌<◌, ◌≤◌, ◌%◌, ◌⊎◌, Option, Some, List, [], ◌∷◌, ◌++◌, Contains}
use Rattle.arc_data.specs.Entries.{closed_len, promise, top_vote}
use Rattle.arc_data.specs.declared.command.Command.{Command}
use Rattle.arc_data.specs.declared.record.Record.{Record}
use Rattle.arc_data.specs.declared.record.Record.TheVariants.{Opened, Promised, Voted}
use Rattle.arc_voting.specs.Journals.{Journals, ByThree, with_entry}
use Rattle.arc_voting.specs.Chosen.{HoldsVote}
use Rattle.arc_voting.specs.Ids.{IsNotChosenBelow}
use Rattle.arc_voting.specs.Settled.{HoldsNoVote}
use Rattle.arc_voting.specs.Sound.{IsSound}

-- What each node's counted promise told of its votes at the slot; nothing for a node whose promise isn't counted.
abbrev pub Promises : Type 0
Promises = ℕ → Option (Option (ℕ × Command))

-- A promise stands in the journal and told the vote of highest ballot at the slot among the entries before it, or that
-- there was none.
pub record IsCounted (journal : List Record) (slot ballot : ℕ) (vote : Option (ℕ × Command)) : Type 0 where
  pub before : List Record
  pub later : List Record
  pub stands : journal ≡ before ++ Promised slot ballot ∷ later
  pub told : vote ≡ top_vote slot before

-- Some counted promise told this vote.
abbrev pub IsTold : Promises → ℕ → Command → Type 0
IsTold promises ballot c = (node : ℕ) × (node < 5) × (promises node ≡ Some (Some (ballot, c)))

-- The proposal is the command of a told vote of highest ballot, and the endpoint's own command where no vote was told.
abbrev pub IsProposal : Promises → Command → Command → Type 0
IsProposal promises own c =
    ((c ≡ own) × ((ballot : ℕ) (d : Command) → ¬ IsTold promises ballot d))
    ⊎ ((highest : ℕ) × IsTold promises highest c × ((ballot : ℕ) (d : Command) → IsTold promises ballot d → ballot ≤ highest))

-- A command that the endpoint may begin at this slot: its id is of a start of this node, and of no other command that was
-- voted for, and of none that was chosen before the slot.
pub record IsOwn (js : Journals) (endpoint slot : ℕ) (own : Command) : Type 0 where
  pub home : own.id.node ≡ endpoint
  pub started : Contains (js endpoint) (Opened own.id.inc)
  pub one : (node s b : ℕ) (d : Command) → node < 5 → HoldsVote (js node) s b d → d.id ≡ own.id → d ≡ own
  pub fresh : IsNotChosenBelow js slot own

-- The endpoint may propose: the ballot is its own, promises of three nodes are counted, it stands at the slot, and it
-- promised no higher ballot.
pub record MayPropose (js : Journals) (promises : Promises) (endpoint slot ballot : ℕ) (own : Command) : Type 0 where
  pub of_five : endpoint < 5
  pub owner : ballot % 5 ≡ endpoint
  pub majority : ByThree (λ node. (vote : Option (ℕ × Command)) × (promises node ≡ Some vote))
  pub counted : (node : ℕ) (vote : Option (ℕ × Command)) → node < 5 → promises node ≡ Some vote →
      IsCounted (js node) slot ballot vote
  pub at_the_end : slot ≡ closed_len (js endpoint)
  pub not_below : promise (js endpoint) ≤ ballot
  pub begins : IsOwn js endpoint slot own

-- The counted promises are the latest: no counted node promised a higher ballot, and the endpoint's own one is counted and
-- is the last entry of its journal.
pub record AreLatest (js : Journals) (promises : Promises) (endpoint slot ballot : ℕ) : Type 0 where
  pub none_above : (node : ℕ) (vote : Option (ℕ × Command)) → node < 5 → promises node ≡ Some vote → promise (js node) ≤ ballot
  pub own : (vote : Option (ℕ × Command)) × (promises endpoint ≡ Some vote)
  pub last : (before : List Record) × (js endpoint ≡ before ++ Promised slot ballot ∷ [])

-- Where the endpoint holds no vote at the slot and ballot, its vote for the proposal keeps sound journals sound.
abbrev pub ProposalKeepsSound : Type 0
ProposalKeepsSound =
    (js : Journals) (promises : Promises) (endpoint slot ballot : ℕ) (own c : Command) → IsSound js →
    MayPropose js promises endpoint slot ballot own → IsProposal promises own c → HoldsNoVote (js endpoint) slot ballot →
    IsSound (with_entry js endpoint (Voted slot ballot c))

-- Where it holds a vote there already, and the counted promises are the latest, that vote is for the proposal.
abbrev pub StandingVoteIsTheProposal : Type 0
StandingVoteIsTheProposal =
    (js : Journals) (promises : Promises) (endpoint slot ballot : ℕ) (own c d : Command) → IsSound js →
    MayPropose js promises endpoint slot ballot own → AreLatest js promises endpoint slot ballot →
    IsProposal promises own c → HoldsVote (js endpoint) slot ballot d → d ≡ c
