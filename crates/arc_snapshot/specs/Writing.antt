-- What the writer holds, and what it does to its two lists.
use Rattle.std.specs.Prelude.{◌≡◌, ℕ, true, List, ◌++◌, drop, fold, length, take, Result, Ok, Err}
use mathlib.Core.List.{IsPrefix}
use Rattle.arc_bytes.specs.declared.outcome.Memory.{Memory}
use Rattle.arc_data.specs.declared.command.Command.{Command}
use Rattle.arc_snapshot.specs.declared.known.Known.{Known}
use Rattle.arc_snapshot.specs.declared.known.Lists.{Lists}
use Rattle.arc_snapshot.specs.declared.known.Version.{Version}
use Rattle.arc_snapshot.specs.declared.known.Whole.{Whole}
use Rattle.arc_snapshot.specs.declared.taken.Step.{Step}
use Rattle.arc_snapshot.specs.Version.{done}

-- what the steps of a log make of the version that is shown, where so many of them were done
abbrev pub next_of : Version → ℕ → List Step → Version
next_of shown behind log = fold done shown (drop behind log)

-- the lists of a writer that shows one version and shows another next
abbrev pub lists : Version → Version → Lists
lists shown next = record { published = shown.commands; taken = next.commands; sides = shown.sides }

-- The writer's version, the one that it shows next, its seat, the record and its count are of the same sides, and agree:
-- what is shown was recorded, and as long as the record is whole, so was all that was taken over.
pub record Agree (shown next : Version) (seat : Known) (kept : Whole) (count : ℕ) : Type 0 where
  pub counted : count ≡ length next.commands
  pub next_sides : next.sides ≡ shown.sides
  pub seat_sides : seat.sides ≡ shown.sides
  pub kept_sides : kept.sides ≡ shown.sides
  pub goes_on : IsPrefix shown.commands next.commands
  pub recorded : IsPrefix shown.commands kept.list
  pub all : kept.whole ≡ true → kept.list ≡ next.commands

-- these commands were taken over, and readers see what they saw
abbrev pub Takes : Lists → List Command → Lists → Type 0
Takes old commands new =
    (new.published ≡ old.published) × (new.taken ≡ old.taken ++ commands) × (new.sides ≡ old.sides)

-- all commands were taken over; or, for want of memory, some from the front
abbrev pub TakesOver : Lists → List Command → Result (Unit {0}) Memory → Lists → Type 0
TakesOver old commands (Ok done) new = Takes old commands new
TakesOver old commands (Err none) new = (n : ℕ) × Takes old (take n commands) new

-- All that was taken over before and then these commands are published. Or, for want of memory, nothing more is
-- published, and some commands from the front were taken over.
abbrev pub Publishes : Lists → List Command → Result (Unit {0}) Memory → Lists → Type 0
Publishes old commands (Ok done) new =
    (new.published ≡ old.taken ++ commands) × (new.taken ≡ new.published) × (new.sides ≡ old.sides)
Publishes old commands (Err none) new = (n : ℕ) × Takes old (take n commands) new

-- what is shown next was recorded, and goes on from what is shown
abbrev pub IsReady : Version → Version → Type 0
IsReady shown next = IsPrefix next.commands next.recorded × IsPrefix shown.commands next.commands × (next.sides ≡ shown.sides)

-- what comes next is shown, and the writer's seat knows of which sides it is; or, for want of memory, nothing changed
abbrev pub Showed : Version → Version → Known → Result (Unit {0}) Memory → Version → Version → Known → Type 0
Showed shown next seat (Ok done) shown' next' seat' = (shown' ≡ next) × (next' ≡ next) × (seat'.sides ≡ next.sides)
Showed shown next seat (Err none) shown' next' seat' = (shown' ≡ shown) × (next' ≡ next) × (seat' ≡ seat)
