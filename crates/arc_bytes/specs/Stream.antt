-- What a stream is, and what a call makes of its count of faults.
use Rattle.std.specs.Prelude.{ℕ, Result, Ok, Err, ◌&&◌, ◌==◌, nat_lt, List, length, take, Option, if◌then◌else◌}
use Rattle.std.specs.Io.KnownBytes.{Appends}
use Rattle.arc_bytes.specs.Counts.{next_count}
use Rattle.arc_bytes.specs.declared.outcome.Failed.{Failed}

-- A reader or a writer, and how often its calls have failed.
pub record Stream (T : Type 0) : Type 0 where
  pub inner : T
  pub faults : ℕ

-- After one read: a failure is a fault.
abbrev pub faults_after_read : ℕ → Result ℕ Failed → ℕ
faults_after_read faults (Ok n) = faults
faults_after_read faults (Err _) = next_count faults

-- After one write: a failure is a fault, and so is to take nothing of a piece that isn't empty.
abbrev pub faults_after_write : ℕ → Result ℕ Failed → List ℕ → ℕ
faults_after_write faults (Ok n) piece = if n == 0 && nat_lt 0 (length piece) then next_count faults else faults
faults_after_write faults (Err _) piece = next_count faults

-- One write, where the writer tells what it holds: the first n bytes of the piece stand behind that, or after a failure some
-- prefix of the piece.
abbrev pub WritesKnown : Option (List ℕ) → Option (List ℕ) → Result ℕ Failed → List ℕ → Type 0
WritesKnown old new (Ok n) piece = Appends old new (take n piece)
WritesKnown old new (Err _) piece = (n : ℕ) × Appends old new (take n piece)
