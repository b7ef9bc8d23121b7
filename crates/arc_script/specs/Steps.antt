-- What a step has to be.
use Rattle.std.specs.Prelude.{ℕ, Some, slice_get, List, AllPairs, ◌≢◌, ◌≡◌, ◌≤◌, ◌<◌, ◌^◌}
use Rattle.arc_data.specs.Valid.{IsValid, HasBetween}
use Rattle.arc_data.specs.declared.batch.Entry.{Entry}
use Rattle.arc_data.specs.declared.command.TheConstants.{MAX_MS}
use Rattle.arc_script.specs.declared.step.Step.{Step}
use Rattle.arc_script.specs.declared.step.Step.TheVariants.{Slots, Call, Crash, Restart}

-- the changes of a batch: from 1 to 16, each of another control
abbrev pub AreChanges : List Entry → Type 0
AreChanges entries = HasBetween 1 16 entries × AllPairs (λ a b. a.control ≢ b.control) entries

-- of the five nodes 0 to 4 the first is built
abbrev pub IsBuilt : ℕ → Type 0
IsBuilt node = node ≡ 0

-- a step whose numbers and operation are within their limits
abbrev pub IsValidStep : Step → Type 0
IsValidStep (Slots n) = (1 ≤ n) × (n ≤ 16384)
IsValidStep (Call node at_ms token op) = IsBuilt node × (at_ms ≤ MAX_MS) × (token < 2 ^ 64) × IsValid op
IsValidStep (Crash node) = IsBuilt node
IsValidStep (Restart node) = IsBuilt node

-- only the first step may say how many slots there are
abbrev pub SlotsComeFirst : List Step → Type 0
SlotsComeFirst steps = (k n : ℕ) → slice_get steps k ≡ Some (Slots n) → k ≡ 0
