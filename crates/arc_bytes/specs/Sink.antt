-- What writing does to the bytes that were taken.
use Rattle.std.specs.Prelude.{ℕ, ◌≡◌, ◌++◌, List, take, Option, Some, None, Result, Ok, Err}
use Rattle.arc_bytes.specs.declared.outcome.Failed.{Failed}

-- These bytes went out behind those that were taken before, where the sink tells them. Where it tells nothing, it goes
-- on so.
abbrev pub Appends : Option (List ℕ) → Option (List ℕ) → List ℕ → Type 0
Appends None new bytes = new ≡ None
Appends (Some old) new bytes = new ≡ Some (old ++ bytes)

-- A prefix of these bytes went out, all of them or fewer.
abbrev pub AppendsPrefix : Option (List ℕ) → Option (List ℕ) → List ℕ → Type 0
AppendsPrefix old new bytes = (n : ℕ) × Appends old new (take n bytes)

-- One write: the first n bytes of the piece went out, or after a failure some prefix of it.
abbrev pub Writes : Option (List ℕ) → Option (List ℕ) → Result ℕ Failed → List ℕ → Type 0
Writes old new (Ok n) bytes = Appends old new (take n bytes)
Writes old new (Err e) bytes = AppendsPrefix old new bytes
