-- What a proposal keeps.
use Rattle.std.specs.Prelude.{ℕ, ◌≡◌, ◌<◌, ◌≤◌, Option, Some, List, [], ◌∷◌, ◌++◌}
use Rattle.arc_data.specs.Entries.{closed_len, promise}
use Rattle.arc_data.specs.declared.command.Command.{Command}
use Rattle.arc_data.specs.declared.record.Record.{Record}
use Rattle.arc_data.specs.declared.record.Record.TheVariants.{Promised, Voted}
use Rattle.arc_voting.specs.Journals.{Journals, with_entry}
use Rattle.arc_voting.specs.Chosen.{HoldsVote}
use Rattle.arc_voting.specs.Settled.{HoldsNoVote}
use Rattle.arc_voting.specs.Proposal.{IsCounted, IsOwn}
use Rattle.arc_voting.specs.Sound.{IsSound}
use Rattle.arc_proposer.specs.Counting.{ByThreeWith, Has}
use Rattle.arc_proposer.specs.Proposing.{Proposing, ballot_of, promises_of, proposed_by}

-- At least three promises are counted, the endpoint's among them.
abbrev pub HasMajority : Proposing → Type 0
HasMajority p = ByThreeWith (λ node. Has (promises_of p node)) p.node

-- The counted promises stand in the journals with the votes that they told, and the endpoint's journal ends at the slot,
-- promises no higher ballot and lets its own command begin.
pub record StandsIn (js : Journals) (p : Proposing) : Type 0 where
  pub of_five : p.node < 5
  pub counted : (node : ℕ) (vote : Option (ℕ × Command)) → node < 5 → promises_of p node ≡ Some vote →
      IsCounted (js node) p.slot (ballot_of p) vote
  pub at_the_end : p.slot ≡ closed_len (js p.node)
  pub not_below : promise (js p.node) ≤ ballot_of p
  pub begins : IsOwn js p.node p.slot p.own

-- No counted node promised a higher ballot, and the endpoint's promise is the last entry of its journal.
pub record IsLatest (js : Journals) (p : Proposing) : Type 0 where
  pub none_above : (node : ℕ) (vote : Option (ℕ × Command)) → node < 5 → promises_of p node ≡ Some vote →
      promise (js node) ≤ ballot_of p
  pub last : (before : List Record) × (js p.node ≡ before ++ Promised p.slot (ballot_of p) ∷ [])

-- The endpoint's vote for the proposal keeps sound journals sound.
abbrev pub ProposalKeepsSound : Type 0
ProposalKeepsSound = (js : Journals) (p : Proposing) → IsSound js → HasMajority p → StandsIn js p →
    HoldsNoVote (js p.node) p.slot (ballot_of p) → IsSound (with_entry js p.node (Voted p.slot (ballot_of p) (proposed_by p)))

-- Where the endpoint's journal has a vote at the slot and ballot already, that vote is for the proposal.
abbrev pub StandingVoteIsTheProposal : Type 0
StandingVoteIsTheProposal = (js : Journals) (p : Proposing) (d : Command) → IsSound js → HasMajority p → StandsIn js p →
    IsLatest js p → HoldsVote (js p.node) p.slot (ballot_of p) d → d ≡ proposed_by p
