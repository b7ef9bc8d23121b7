-- When an entry may stand where it does in its own journal.
use Rattle.std.specs.Prelude.{ℕ, ◌≡◌, ◌≢◌, ◌<◌, ◌≤◌, ◌+◌, ◌*◌, List, [], All, Contains}
use Rattle.arc_data.specs.Entries.{closed_len, promise}
use Rattle.arc_data.specs.declared.command.Command.{Command}
use Rattle.arc_data.specs.declared.record.Record.{Record}
use Rattle.arc_data.specs.declared.record.Record.TheVariants.{Opened, Promised, Voted, Closed}
use Rattle.arc_voting.specs.Journals.{opened_count}
use Rattle.arc_voting.specs.Chosen.{OnVote}

-- A ballot that journals with so many promises may speak of: at least 1, and at most five times that number.
abbrev pub IsBallot : ℕ → ℕ → Type 0
IsBallot promises ballot = (1 ≤ ballot) × (ballot ≤ 5 * promises)

-- Every promise among these entries is below this ballot.
abbrev pub IsAbovePromises : List Record → ℕ → Type 0
IsAbovePromises entries ballot = (from earlier : ℕ) → Contains entries (Promised from earlier) → earlier < ballot

-- No vote among these entries is for another command at this slot and ballot.
abbrev pub IsOneCommand : List Record → ℕ → ℕ → Command → Type 0
IsOneCommand entries slot ballot c =
    All (λ entry. OnVote entry (λ its_slot its_ballot d. its_slot ≡ slot → its_ballot ≡ ballot → d ≡ c)) entries

-- A promise behind the entries before it: it begins at the closed length there, in a higher ballot than any earlier one.
pub record IsPromise (promises : ℕ) (before : List Record) (from ballot : ℕ) : Type 0 where
  pub not_first : before ≢ []
  pub at_the_end : from ≡ closed_len before
  pub higher : IsAbovePromises before ballot
  pub in_range : IsBallot promises ballot

-- A vote behind the entries before it: at the closed length there, in a ballot not below the promise there.
pub record IsVote (promises : ℕ) (before : List Record) (slot ballot : ℕ) (c : Command) : Type 0 where
  pub not_first : before ≢ []
  pub at_the_end : slot ≡ closed_len before
  pub not_below : promise before ≤ ballot
  pub one_command : IsOneCommand before slot ballot c
  pub in_range : IsBallot promises ballot

-- An entry fits the entries before it, where the five journals have so many promises. The first entry is an `Opened`;
-- `Opened` counts up from 1 and `Closed` from 0.
abbrev pub Fits : ℕ → List Record → Record → Type 0
Fits promises before (Opened inc) = inc ≡ opened_count before + 1
Fits promises before (Promised from ballot) = IsPromise promises before from ballot
Fits promises before (Voted slot ballot c) = IsVote promises before slot ballot c
Fits promises before (Closed slot c) = (before ≢ []) × (slot ≡ closed_len before)
