-- When a ballot can choose no other command any more.
use Rattle.std.specs.Prelude.{ℕ, ◌<◌, ◌≤◌, ◌⊎◌, List, Contains}
use Rattle.arc_data.specs.declared.command.Command.{Command}
use Rattle.arc_data.specs.declared.record.Record.{Record}
use Rattle.arc_data.specs.declared.record.Record.TheVariants.{Promised}
use Rattle.arc_voting.specs.Journals.{Journals, ByThree}
use Rattle.arc_voting.specs.Chosen.{HoldsVote}

-- A journal holds no vote at this slot and ballot.
abbrev pub HoldsNoVote : List Record → ℕ → ℕ → Type 0
HoldsNoVote journal slot ballot = (c : Command) → ¬ HoldsVote journal slot ballot c

-- A journal holds a promise above this ballot that begins at this slot or below it.
abbrev pub HasPromisedAbove : List Record → ℕ → ℕ → Type 0
HasPromisedAbove journal slot ballot =
    (from higher : ℕ) × Contains journal (Promised from higher) × (ballot < higher) × (from ≤ slot)

-- A journal settles a ballot at a slot for a command: it votes for this command there, or it has no vote there and never
-- will.
abbrev pub Settles : List Record → ℕ → ℕ → Command → Type 0
Settles journal slot ballot c =
    HoldsVote journal slot ballot c ⊎ (HoldsNoVote journal slot ballot × HasPromisedAbove journal slot ballot)

-- At least three journals settle this ballot for this command.
abbrev pub IsSettled : Journals → ℕ → ℕ → Command → Type 0
IsSettled js slot ballot c = ByThree (λ node. Settles (js node) slot ballot c)

-- Every ballot below this one is settled at the slot for the command.
abbrev pub LowerAreSettled : Journals → ℕ → ℕ → Command → Type 0
LowerAreSettled js slot ballot c = (lower : ℕ) → 1 ≤ lower → lower < ballot → IsSettled js slot lower c
