-- What a walk along a journal knows.
use Rattle.std.specs.Prelude.{ℕ, ◌≡◌, ◌<◌, ◌≤◌, ◌+◌, ◌^◌, ◌⊎◌, Option, Some, MatchOption, List, Contains, length, take, IfSome}
use Rattle.std.specs.List.{slice_get}
use Rattle.arc_data.specs.declared.command.Command.{Command}
use Rattle.arc_data.specs.declared.record.Record.{Record}
use Rattle.arc_data.specs.declared.record.Record.TheVariants.{Promised, Voted}
use Rattle.arc_voting.specs.declared.formed.Seen.{Seen}
use Rattle.arc_voting.specs.declared.breach.Breach.{Breach}
use Rattle.arc_voting.specs.declared.rule.Rule.{Rule}
use Rattle.arc_voting.specs.Rules.{number_of}
use Rattle.arc_voting.specs.Sound.{Keeps, StandsBefore}
use Rattle.arc_data.specs.Entries.{closed_len, promise}
use Rattle.arc_voting.specs.Journals.{Journals, opened_count}
use Rattle.arc_voting.specs.Formed.{Fits, IsAbovePromises}

-- Every journal has fewer than 2 ^ 32 entries.
abbrev pub HaveRoom : Journals → Type 0
HaveRoom js = (node : ℕ) → node < 5 → length (js node) < 2 ^ 32

-- The entry at this place fits those before it.
abbrev pub IsFitBehind : ℕ → List Record → ℕ → Type 0
IsFitBehind promises journal place = IfSome (slice_get journal place) (λ entry. Fits promises (take place journal) entry)

-- What is known of the entries before this place.
pub record Describes (seen : Seen) (journal : List Record) (place : ℕ) : Type 0 where
  pub opened : seen.opened ≡ opened_count (take place journal)
  pub closed : seen.closed ≡ closed_len (take place journal)
  pub last : seen.promise ≡ promise (take place journal)
  pub highest : IsAbovePromises (take place journal) (seen.promise + 1)
  -- the highest one is 0, or was promised
  pub promised : (seen.promise ≡ 0) ⊎ ((from : ℕ) × Contains (take place journal) (Promised from seen.promise))
  pub start : seen.start ≤ place
  pub small : (seen.opened ≤ place) × (seen.closed ≤ place)
  -- no vote is at a slot beyond the first open one, and those at that one stand from the start on
  pub recent : (k slot ballot : ℕ) (c : Command) → k < place → slice_get journal k ≡ Some (Voted slot ballot c) →
      (slot < seen.closed) ⊎ ((slot ≡ seen.closed) × (seen.start ≤ k))

-- The first place at which it doesn't hold; none, where it holds at each.
abbrev pub IsFirstIn : (ℕ → Type 0) → Option ℕ → Type 0
IsFirstIn P found = MatchOption found ((place : ℕ) → P place) (λ first. (¬ P first) × ((place : ℕ) → place < first → P place))

-- The first breach of one rule, by node and then place; none, where every entry keeps it.
abbrev pub IsFirstUnder : Journals → Rule → Option Breach → Type 0
IsFirstUnder js rule found = MatchOption found ((node place : ℕ) → node < 5 → Keeps js rule node place)
    (λ breach. (breach.rule ≡ number_of rule) × (breach.node < 5) × (¬ Keeps js rule breach.node breach.place)
    × ((n p : ℕ) → StandsBefore n p breach.node breach.place → Keeps js rule n p))
