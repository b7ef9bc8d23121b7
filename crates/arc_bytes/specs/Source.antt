-- What reading does to the bytes that are left.
use Rattle.std.specs.Prelude.{ℕ, ◌≡◌, ◌++◌, List, [], take, drop, Option, Some, None, Result, Ok, Err, ⊤}
use Rattle.arc_bytes.specs.declared.outcome.Failed.{Failed}

-- One read, where the source tells what is left: the first n bytes of that stand at the front of the buffer, and the
-- others are left. No byte comes only at the end. After a failure all is left. Where it tells nothing, it goes on so.
abbrev pub Reads : Option (List ℕ) → Option (List ℕ) → Result ℕ Failed → List ℕ → Type 0
Reads None new result buf = new ≡ None
Reads (Some left) new (Ok n) buf = (left ≡ take n buf ++ drop n left) × (new ≡ Some (drop n left)) × (n ≡ 0 → left ≡ [])
Reads (Some left) new (Err e) buf = new ≡ Some left

-- These bytes came, one after another, and the rest is left, where the source tells it.
abbrev pub Came : Option (List ℕ) → Option (List ℕ) → List ℕ → Type 0
Came None new bytes = new ≡ None
Came (Some left) new bytes = (rest : List ℕ) × (left ≡ bytes ++ rest) × (new ≡ Some rest)

-- The end was reached: nothing is left, where the source tells it.
abbrev pub AtEnd : Option (List ℕ) → Type 0
AtEnd None = ⊤
AtEnd (Some left) = left ≡ []
