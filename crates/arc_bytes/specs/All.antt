-- What reading a whole input and writing a whole piece do.
use Rattle.std.specs.Prelude.{ℕ, ◌≡◌, ◌<◌, ◌≤◌, List, length, Option, Result, Ok, Err}
use Rattle.std.specs.Global.{Vec}
use Rattle.arc_bytes.specs.Sink.{Appends, AppendsPrefix}
use Rattle.arc_bytes.specs.Source.{AtEnd, Came}
use Rattle.arc_bytes.specs.declared.all.ReadEnd.{ReadEnd}
use Rattle.arc_bytes.specs.declared.all.ReadEnd.TheVariants as ends
use Rattle.arc_bytes.specs.declared.outcome.Failed.{Failed}

-- By the bytes that were given: all of the input within the limit, more bytes than the limit, or bytes within the limit
-- up to a failure or want of memory.
abbrev pub IsAnswerFor : List ℕ → Option (List ℕ) → ℕ → Result (Vec ℕ) ReadEnd → Type 0
IsAnswerFor given left limit (Ok v) = (v.items ≡ given) × (length given ≤ limit) × AtEnd left
IsAnswerFor given left limit (Err (ends.TooLong l)) = (l ≡ limit) × (limit < length given)
IsAnswerFor given left limit (Err ends.Failed) = length given ≤ limit
IsAnswerFor given left limit (Err ends.Memory) = length given ≤ limit

-- Reading to the end: the bytes that came from what was left, and the answer that they have.
abbrev pub ReadsAll : Option (List ℕ) → Option (List ℕ) → ℕ → Result (Vec ℕ) ReadEnd → Type 0
ReadsAll old new limit result = (given : List ℕ) × Came old new given × IsAnswerFor given new limit result

-- Writing all of these bytes: all of them went out, or after a failure a prefix.
abbrev pub WritesAll : Option (List ℕ) → Option (List ℕ) → Result Unit Failed → List ℕ → Type 0
WritesAll old new (Ok _) bytes = Appends old new bytes
WritesAll old new (Err _) bytes = AppendsPrefix old new bytes
