-- The end of a list of entries, behind the last slot that was closed, and lists in which each vote stands at the open slot.
use Rattle.std.specs.Prelude.{ℕ, ◌≡◌, ◌<◌, ◌↔◌, ◌∷◌, ◌++◌, [], if◌then◌else◌, List, IfSome, take}
use Rattle.std.specs.List.{fold, slice_get}
use Rattle.arc_data.specs.Entries.{closed_len, is_closed, top_vote}
use Rattle.arc_data.specs.declared.command.Command.{Command}
use Rattle.arc_data.specs.declared.message.Message.{Message}
use Rattle.arc_data.specs.declared.record.Record.{Record}
use Rattle.arc_data.specs.declared.record.Record.TheVariants.{Opened}
use Rattle.arc_voting.specs.Journals.{Journals}
use Rattle.arc_voting.specs.Chosen.{HoldsVote, OnVote}
use Rattle.arc_voting.specs.Handled.{appended}
use Rattle.arc_voting.specs.Sound.{IsSound}
use Rattle.arc_voting.specs.Turn.{Turn, IsTurn}

-- What stands behind the last entry that closes a slot, with one entry more.
abbrev pub tail_after : List Record → Record → List Record
tail_after tail entry = if is_closed entry then [] else tail ++ entry ∷ []

-- The entries behind the last one that closes a slot; all of them where none does.
abbrev pub tail_of : List Record → List Record
tail_of journal = fold tail_after [] journal

-- Each vote's slot is the number of entries before it that close one: the slot that was open when it was given.
abbrev pub VotesAreInPlace : List Record → Type 0
VotesAreInPlace journal = (place : ℕ) →
    IfSome (slice_get journal place) (λ entry. OnVote entry (λ slot ballot c. slot ≡ closed_len (take place journal)))

-- Where votes are in place, the vote of highest ballot at the open slot is that of the tail.
abbrev pub TopVoteIsInTail : Type 0
TopVoteIsInTail = (journal : List Record) (slot : ℕ) → VotesAreInPlace journal → slot ≡ closed_len journal →
    top_vote slot journal ≡ top_vote slot (tail_of journal)

-- Where votes are in place, a list holds a vote at the open slot just where its tail does.
abbrev pub VoteIsInTail : Type 0
VoteIsInTail = (journal : List Record) (slot ballot : ℕ) (c : Command) → VotesAreInPlace journal → slot ≡ closed_len journal →
    HoldsVote journal slot ballot c ↔ HoldsVote (tail_of journal) slot ballot c

-- The empty list has its votes in place.
abbrev pub NoVotesAreInPlace : Type 0
NoVotesAreInPlace = VotesAreInPlace []

-- Votes stay in place behind the entry that the table appends, whatever the message is.
abbrev pub TurnsKeepVotesInPlace : Type 0
TurnsKeepVotesInPlace = (journal : List Record) (message : Message) (turn : Turn) → IsTurn journal message turn →
    VotesAreInPlace journal → VotesAreInPlace (appended journal turn.append)

-- Votes stay in place behind a start.
abbrev pub StartsKeepVotesInPlace : Type 0
StartsKeepVotesInPlace = (journal : List Record) (inc : ℕ) → VotesAreInPlace journal → VotesAreInPlace (journal ++ Opened inc ∷ [])

-- Each front of a list with votes in place is such a list.
abbrev pub FrontsKeepVotesInPlace : Type 0
FrontsKeepVotesInPlace = (journal : List Record) (k : ℕ) → VotesAreInPlace journal → VotesAreInPlace (take k journal)

-- Sound journals have their votes in place.
abbrev pub SoundVotesAreInPlace : Type 0
SoundVotesAreInPlace = (js : Journals) (node : ℕ) → IsSound js → node < 5 → VotesAreInPlace (js node)
