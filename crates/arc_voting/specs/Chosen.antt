-- Votes, and what they choose.
use Rattle.std.specs.Prelude.{ℕ, ⊤, List, Contains}
use Rattle.arc_data.specs.declared.command.Command.{Command}
use Rattle.arc_data.specs.declared.record.Record.{Record}
use Rattle.arc_data.specs.declared.record.Record.TheVariants.{Opened, Promised, Voted, Closed}
use Rattle.arc_voting.specs.Journals.{Journals, ByThree}

-- A fact of an entry that is a vote; of any other entry it asks nothing.
abbrev pub OnVote : Record → (ℕ → ℕ → Command → Type 0) → Type 0
OnVote (Opened inc) P = ⊤
OnVote (Promised from ballot) P = ⊤
OnVote (Voted slot ballot c) P = P slot ballot c
OnVote (Closed slot c) P = ⊤

-- The entry is a vote of which this holds.
abbrev pub IsVoteWith : Record → (ℕ → ℕ → Command → Type 0) → Type 0
IsVoteWith (Opened inc) P = ⊥
IsVoteWith (Promised from ballot) P = ⊥
IsVoteWith (Voted slot ballot c) P = P slot ballot c
IsVoteWith (Closed slot c) P = ⊥

-- A journal holds this vote.
abbrev pub HoldsVote : List Record → ℕ → ℕ → Command → Type 0
HoldsVote journal slot ballot c = Contains journal (Voted slot ballot c)

-- At least three journals hold this vote.
abbrev pub IsVotedByThree : Journals → ℕ → ℕ → Command → Type 0
IsVotedByThree js slot ballot c = ByThree (λ node. HoldsVote (js node) slot ballot c)

-- A command is chosen at a slot: for some ballot at least three journals hold that vote.
abbrev pub IsChosen : Journals → ℕ → Command → Type 0
IsChosen js slot c = (ballot : ℕ) × IsVotedByThree js slot ballot c
