-- The bodies of entries.
use Rattle.std.specs.Prelude.{ℕ, List, Option, Some, None, Result, Ok, Err}
use Rattle.arc_data.specs.declared.record.Record.{Record}
use Rattle.arc_command.specs.Reading.{body_of}

-- The record that was read.
abbrev pub read_record : Result Record ℕ → Option Record
read_record (Ok r) = Some r
read_record (Err place) = None

-- The record that a body spells, if there is one.
abbrev pub record_of : List ℕ → Option Record
record_of body = read_record (body_of body)
