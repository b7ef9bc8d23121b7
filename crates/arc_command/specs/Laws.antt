-- The laws of the bytes of commands and entries.
use Rattle.std.specs.Prelude.{ℕ, ◌≡◌, ◌++◌, List, length, drop, Ok}
use Rattle.arc_data.specs.declared.command.Command.{Command}
use Rattle.arc_data.specs.declared.record.Record.{Record}
use Rattle.arc_command.specs.Reading.{command_at, body_of}
use Rattle.arc_command.specs.Spelling.{command_bytes, record_bytes}
use Rattle.arc_command.specs.Typed.{IsTyped, IsTypedRecord}
use Rattle.arc_data.specs.Valid.{IsValidCommand, IsValidRecord}

-- A command that has a spelling: it is within its limits, and so is what it holds within its types.
pub record IsSpellable (c : Command) : Type 0 where
  pub valid : IsValidCommand c
  pub typed : IsTyped c

-- An entry that has a spelling.
pub record IsSpellableRecord (r : Record) : Type 0 where
  pub valid : IsValidRecord r
  pub typed : IsTypedRecord r

-- These bytes begin with the spelling of a command, of so many bytes.
pub record BeginsWith (bytes : List ℕ) (c : Command) (n : ℕ) : Type 0 where
  pub spellable : IsSpellable c
  pub spelled : bytes ≡ command_bytes c ++ drop n bytes
  pub length : n ≡ length (command_bytes c)

-- What is spelled is read again, whatever follows it.
abbrev pub ReadsCommands : Type 0
ReadsCommands = (c : Command) (rest : List ℕ) → IsSpellable c →
    command_at (command_bytes c ++ rest) 0 ≡ Ok (c, length (command_bytes c))

-- Commands whose spellings begin the same bytes are one command, so none begins with another's.
abbrev pub HasOneSpelling : Type 0
HasOneSpelling = (c d : Command) (rest other : List ℕ) → IsSpellable c → IsSpellable d →
    command_bytes c ++ rest ≡ command_bytes d ++ other → (c ≡ d) × (rest ≡ other)

-- The spelling of an entry is read as that entry.
abbrev pub ReadsEntries : Type 0
ReadsEntries = (r : Record) → IsSpellableRecord r → body_of (record_bytes r) ≡ Ok r

-- Entries with one spelling are one entry.
abbrev pub EntriesHaveOneSpelling : Type 0
EntriesHaveOneSpelling = (r s : Record) → IsSpellableRecord r → IsSpellableRecord s → record_bytes r ≡ record_bytes s → r ≡ s
