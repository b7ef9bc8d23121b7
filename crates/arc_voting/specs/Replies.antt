-- What an answer says of the node that gave it.
use Rattle.std.specs.Prelude.{ℕ, ◌≡◌, ◌<◌, ◌≤◌, ◌+◌, ◌⊎◌, ⊤, IfSome, Option, Some, List, [], ◌∷◌, ◌++◌, length}
use Rattle.std.specs.List.{slice_get}
use Rattle.arc_data.specs.Entries.{closed_len, promise, top_vote}
use Rattle.arc_data.specs.declared.command.Command.{Command}
use Rattle.arc_data.specs.declared.message.Message.{Message}
use Rattle.arc_data.specs.declared.message.Message.TheVariants.{Status, Prepare, Accept, Learn}
use Rattle.arc_data.specs.declared.message.Answer.{Answer}
use Rattle.arc_data.specs.declared.message.Answer.TheVariants.{At, Known, Behind, Refused, Promise, Accepted, Learned}
use Rattle.arc_data.specs.declared.record.Record.{Record}
use Rattle.arc_data.specs.declared.record.Record.TheVariants.{Promised, Voted, Closed}
use Rattle.arc_voting.specs.Journals.{Journals}
use Rattle.arc_voting.specs.Chosen.{HoldsVote, IsVotedByThree, IsChosen}
use Rattle.arc_voting.specs.Handled.{appended, Handles}
use Rattle.arc_voting.specs.Lists.{applied}
use Rattle.arc_voting.specs.Proposal.{IsCounted}
use Rattle.arc_voting.specs.Sound.{IsSound}
use Rattle.arc_voting.specs.Turn.{Turn, IsTurn}

-- The slot that a message speaks of.
abbrev pub slot_of : Message → ℕ
slot_of (Status slot) = slot
slot_of (Prepare slot ballot) = slot
slot_of (Accept slot ballot c) = slot
slot_of (Learn slot c) = slot

-- A message that this promise refuses: one that asks for a promise no higher, or for a vote in a lower ballot.
abbrev pub IsRefusedBy : ℕ → Message → Type 0
IsRefusedBy promise (Status slot) = ⊥
IsRefusedBy promise (Prepare slot ballot) = ballot ≤ promise
IsRefusedBy promise (Accept slot ballot c) = ballot < promise
IsRefusedBy promise (Learn slot c) = ⊥

-- A node that kept the one journal gave a promise at the slot, and keeps the other one: the promise ends it, in a higher
-- ballot than any before it, and is counted with the vote that was told.
pub record HasPromised (journal after : List Record) (slot ballot : ℕ) (vote : Option (ℕ × Command)) : Type 0 where
  pub at_the_end : slot ≡ closed_len journal
  pub above : promise journal < ballot
  pub told : vote ≡ top_vote slot journal
  pub ends : after ≡ journal ++ Promised slot ballot ∷ []
  pub counted : IsCounted after slot ballot vote
  pub latest : promise after ≡ ballot
  pub still_open : closed_len after ≡ slot

-- A node that kept the one journal voted, and keeps the other one: that holds the very vote, which stood already or was
-- appended.
pub record HasAccepted (journal after : List Record) (slot ballot : ℕ) (c : Command) : Type 0 where
  pub at_the_end : slot ≡ closed_len journal
  pub not_below : promise journal ≤ ballot
  pub holds : HoldsVote after slot ballot c
  pub only : (after ≡ journal) ⊎ (after ≡ journal ++ Voted slot ballot c ∷ [])
  pub same_promise : promise after ≡ promise journal
  pub still_open : closed_len after ≡ slot

-- A node that kept the one journal learned, and keeps the other one: the slot was closed already, and nothing changed; or
-- it was the open one, and is closed with the command.
pub record HasLearned (journal after : List Record) (slot : ℕ) (c : Command) : Type 0 where
  pub closed : slot < closed_len after
  pub only : ((slot < closed_len journal) × (after ≡ journal))
      ⊎ ((slot ≡ closed_len journal) × (after ≡ journal ++ Closed slot c ∷ []))
  pub same_promise : promise after ≡ promise journal

-- What an answer to a message says of the journal that was kept, and of the one that is kept after it.
abbrev pub Says : List Record → Message → List Record → Answer → Type 0
Says journal message after (At n ballot known) =
    (message ≡ Status (slot_of message)) × (after ≡ journal) × (n ≡ closed_len journal) × (ballot ≡ promise journal)
    × (known ≡ slice_get (applied journal) (slot_of message))
Says journal message after (Known slot c) =
    (after ≡ journal) × (slot ≡ slot_of message) × (slice_get (applied journal) slot ≡ Some c)
Says journal message after (Behind n) = (after ≡ journal) × (n ≡ closed_len journal) × (n < slot_of message)
Says journal message after (Refused ballot) =
    (after ≡ journal) × (slot_of message ≡ closed_len journal) × (ballot ≡ promise journal) × IsRefusedBy ballot message
Says journal message after (Promise slot ballot vote) =
    (message ≡ Prepare slot ballot) × HasPromised journal after slot ballot vote
Says journal message after (Accepted slot ballot) =
    (c : Command) × (message ≡ Accept slot ballot c) × HasAccepted journal after slot ballot c
Says journal message after (Learned n) =
    (n ≡ closed_len after)
    × ((c : Command) × (message ≡ Learn (slot_of message) c) × HasLearned journal after (slot_of message) c)

-- Each answer of the table says so.
abbrev pub AnswersAreFacts : Type 0
AnswersAreFacts = (journal : List Record) (message : Message) (turn : Turn) → IsTurn journal message turn →
    Says journal message (appended journal turn.append) turn.reply

-- A promise that is counted is so in each longer journal.
abbrev pub CountedStays : Type 0
CountedStays = (journal more : List Record) (slot ballot : ℕ) (vote : Option (ℕ × Command)) → IsCounted journal slot ballot vote →
    IsCounted (journal ++ more) slot ballot vote

-- The vote that a counted promise told stands in the journal.
abbrev pub CountedVoteStands : Type 0
CountedVoteStands = (journal : List Record) (slot ballot its_ballot : ℕ) (c : Command) →
    IsCounted journal slot ballot (Some (its_ballot, c)) → HoldsVote journal slot its_ballot c

-- A command is chosen where three of the five nodes hold its vote in one ballot.
abbrev pub VotedByThreeIsChosen : Type 0
VotedByThreeIsChosen = (js : Journals) (slot ballot : ℕ) (c : Command) → IsVotedByThree js slot ballot c → IsChosen js slot c

-- A command that is told as closed at a slot is chosen there.
abbrev pub ToldIsChosen : Journals → Message → Answer → Type 0
ToldIsChosen js message (At n ballot known) = IfSome known (λ c. IsChosen js (slot_of message) c)
ToldIsChosen js message (Known slot c) = IsChosen js slot c
ToldIsChosen js message (Behind n) = ⊤
ToldIsChosen js message (Refused ballot) = ⊤
ToldIsChosen js message (Promise slot ballot vote) = ⊤
ToldIsChosen js message (Accepted slot ballot) = ⊤
ToldIsChosen js message (Learned n) = ⊤

-- What a node of sound journals tells as closed is chosen.
abbrev pub ToldAreChosen : Type 0
ToldAreChosen = (js : Journals) (node : ℕ) (message : Message) (turn : Turn) → IsSound js → node < 5 →
    IsTurn (js node) message turn → ToldIsChosen js message turn.reply

-- What a node of sound journals applied is chosen, at its place.
abbrev pub AppliedAreChosen : Type 0
AppliedAreChosen = (js : Journals) (node slot : ℕ) (c : Command) → IsSound js → node < 5 →
    slice_get (applied (js node)) slot ≡ Some c → IsChosen js slot c

-- What is chosen at a slot that a node of sound journals closed is what it applied there.
abbrev pub ChosenAreApplied : Type 0
ChosenAreApplied = (js : Journals) (node slot : ℕ) (c : Command) → IsSound js → node < 5 → slot < closed_len (js node) →
    IsChosen js slot c → slice_get (applied (js node)) slot ≡ Some c

-- The messages that tell these commands, at this slot and the ones behind it.
abbrev pub learns : ℕ → List Command → List Message
learns slot [] = []
learns slot (c ∷ later) = Learn slot c ∷ learns (slot + 1) later

-- A node that handles what it lacks, one command after another, closes its slots up to there, and promises nothing.
abbrev pub LearningReaches : Type 0
LearningReaches = (journal after : List Record) (first : ℕ) (commands : List Command) → Handles (learns first commands) journal after →
    first ≤ closed_len journal → closed_len journal ≤ first + length commands →
    (closed_len after ≡ first + length commands) × (promise after ≡ promise journal)

-- What is told at the open slot or below it is learned.
abbrev pub LearnIsAnswered : Type 0
LearnIsAnswered = (journal : List Record) (slot : ℕ) (c : Command) (turn : Turn) → IsTurn journal (Learn slot c) turn →
    slot ≤ closed_len journal → turn.reply ≡ Learned (closed_len (appended journal turn.append))

-- A promise that is asked for at the open slot, above the last one, is given.
abbrev pub PromiseIsGiven : Type 0
PromiseIsGiven = (journal : List Record) (slot ballot : ℕ) (turn : Turn) → IsTurn journal (Prepare slot ballot) turn →
    slot ≡ closed_len journal → promise journal < ballot → turn.reply ≡ Promise slot ballot (top_vote slot journal)

-- A vote that is asked for at the open slot, not below the promise, is given, whatever votes stand there. So it is next
-- after a promise in its ballot.
abbrev pub VoteIsGiven : Type 0
VoteIsGiven = (journal : List Record) (slot ballot : ℕ) (c : Command) (turn : Turn) → IsTurn journal (Accept slot ballot c) turn →
    slot ≡ closed_len journal → promise journal ≤ ballot → turn.reply ≡ Accepted slot ballot

-- A node that is told the commands that it lacks below the slot, one after another, then promises a ballot there that is
-- above its promise, and, with nothing between, votes in it.
abbrev pub NodeGivesItsVote : Type 0
NodeGivesItsVote = (journal reached : List Record) (first slot ballot : ℕ) (commands : List Command) (c : Command) (turn later : Turn) →
    Handles (learns first commands) journal reached → first ≤ closed_len journal → closed_len journal ≤ slot →
    slot ≡ first + length commands → promise journal < ballot →
    IsTurn reached (Prepare slot ballot) turn → IsTurn (appended reached turn.append) (Accept slot ballot c) later →
    (turn.reply ≡ Promise slot ballot (top_vote slot reached)) × (later.reply ≡ Accepted slot ballot)
