-- The part of each journal in which the votes at one slot stand.
use Rattle.std.specs.Prelude.{ℕ, ◌<◌, ◌≤◌, ◌-◌, ◌≡◌, ◌↔◌, List, All, Any, length, take, drop}
use Rattle.arc_bytes.specs.Five.{at}
use Rattle.arc_data.specs.declared.command.Command.{Command}
use Rattle.arc_data.specs.declared.record.Record.{Record}
use Rattle.arc_voting.specs.declared.slot.Part.{Part}
use Rattle.arc_voting.specs.declared.slot.Slot.{Slot}
use Rattle.arc_voting.specs.Journals.{Journals}
use Rattle.arc_voting.specs.Chosen.{OnVote, IsVoteWith, HoldsVote, IsVotedByThree}
use Rattle.arc_voting.specs.Settled.{HasPromisedAbove, IsSettled}

-- Some vote at this slot and ballot stands among the entries.
abbrev pub VotesAt : List Record → ℕ → ℕ → Type 0
VotesAt entries slot ballot = (c : Command) × HoldsVote entries slot ballot c

-- The entries of a part.
abbrev pub part_of : List Record → Part → List Record
part_of journal part = take (part.end - part.start) (drop part.start journal)

-- Every vote of the journal at the slot stands in this part, and the journal's promises that begin at the slot or below
-- reach up to this ballot.
pub record ShowsPart (journal : List Record) (slot : ℕ) (part : Part) : Type 0 where
  pub forward : part.start ≤ part.end
  pub within : part.end ≤ length journal
  pub votes : (ballot : ℕ) (c : Command) → HoldsVote journal slot ballot c → HoldsVote (part_of journal part) slot ballot c
  pub promises : (ballot : ℕ) → HasPromisedAbove journal slot ballot ↔ (ballot < part.reach)

-- The parts show all that the five journals say of the slot.
abbrev pub Shows : Journals → Slot → Type 0
Shows js slot = (node : ℕ) → node < 5 → ShowsPart (js node) slot.number (at slot.parts node)

-- Some of the five nodes votes at this slot and ballot.
abbrev pub SomeVotesAt : Journals → ℕ → ℕ → Type 0
SomeVotesAt js slot ballot = (node : ℕ) × (node < 5) × VotesAt (js node) slot ballot

-- None of the five nodes votes at this slot and ballot.
abbrev pub NoneVotesAt : Journals → ℕ → ℕ → Type 0
NoneVotesAt js slot ballot = (node : ℕ) → node < 5 → ¬ VotesAt (js node) slot ballot

-- The ballot of a vote at the slot, where it is below the given one, is settled for the command.
unfoldable pub IsSettledBelow : Journals → ℕ → ℕ → Command → Record → Type 0
IsSettledBelow js slot ballot c entry =
    OnVote entry (λ its_slot lower d. its_slot ≡ slot → 1 ≤ lower → lower < ballot → IsSettled js slot lower c)

-- Each ballot of the votes at the slot among these entries, below the given one, is settled for the command.
abbrev pub VotedAreSettled : Journals → List Record → ℕ → ℕ → Command → Type 0
VotedAreSettled js entries slot ballot c = All (λ entry. IsSettledBelow js slot ballot c entry) entries

-- A vote at the slot among these entries is of a ballot in which three vote for the command.
abbrev pub ChoosesAmong : Journals → List Record → ℕ → Command → Type 0
ChoosesAmong js entries slot c =
    Any (λ entry. IsVoteWith entry (λ its_slot ballot d. (its_slot ≡ slot) × IsVotedByThree js slot ballot c)) entries

-- A vote in a slot below this one and with the command's id has no three of its kind.
unfoldable pub IsNoneChosenBelow : Journals → ℕ → Command → Record → Type 0
IsNoneChosenBelow js slot c entry =
    OnVote entry (λ lower ballot d. lower < slot → d.id ≡ c.id → ¬ IsVotedByThree js lower ballot d)

-- No vote among these entries, in a slot below this one and with the command's id, has three of its kind.
abbrev pub HasNoChosenBelow : Journals → List Record → ℕ → Command → Type 0
HasNoChosenBelow js entries slot c = All (λ entry. IsNoneChosenBelow js slot c entry) entries

-- It holds of each of the five nodes.
abbrev pub OfEach : (ℕ → Type 0) → Type 0
OfEach P = (node : ℕ) → node < 5 → P node

-- It holds of some of the five nodes.
abbrev pub OfSome : (ℕ → Type 0) → Type 0
OfSome P = (node : ℕ) × (node < 5) × P node
