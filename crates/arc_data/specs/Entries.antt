-- What a list of entries says of its node.
use Rattle.std.specs.Prelude.{ℕ, ◌==◌, nat_lt, if◌then◌else◌, Bool, true, false, List, [], ◌∷◌, Option, Some, None}
use Rattle.std.specs.Borrow.{Bor}
use Rattle.std.specs.List.{count_by, filter_map, last_or}
use Rattle.std.specs.Option.{unwrap_or}
use Rattle.arc_data.specs.declared.command.Command.{Command}
use Rattle.arc_data.specs.declared.record.Record.{Record}
use Rattle.arc_data.specs.declared.record.Record.TheVariants.{Opened, Promised, Voted, Closed}

-- whether an entry closes a slot
unfoldable pub is_closed : Record → Bool
is_closed (Opened inc) = false
is_closed (Promised from ballot) = false
is_closed (Voted slot ballot command) = false
is_closed (Closed slot command) = true

-- the closed length: how many entries close a slot
abbrev pub closed_len : List Record → ℕ
closed_len entries = count_by is_closed entries

-- the ballot that an entry promises
abbrev pub promised_in : Record → Option ℕ
promised_in (Opened inc) = None
promised_in (Promised from ballot) = Some ballot
promised_in (Voted slot ballot command) = None
promised_in (Closed slot command) = None

-- the promise: the ballot of the last entry that promises one, or 0
abbrev pub promise : List Record → ℕ
promise entries = unwrap_or (last_or None (filter_map promised_in entries)) 0

-- the vote of an entry at a slot: its ballot and its command
abbrev pub vote_at : ℕ → Record → Option (ℕ × Command)
vote_at at (Opened inc) = None
vote_at at (Promised from ballot) = None
vote_at at (Voted slot ballot command) = if slot == at then Some (ballot, command) else None
vote_at at (Closed slot command) = None

-- the votes at a slot, in order
abbrev pub votes_at : ℕ → List Record → List (ℕ × Command)
votes_at slot entries = filter_map (vote_at slot) entries

-- of two votes that of the higher ballot, and the first one of equal ballots
abbrev pub better : Option (ℕ × Command) → Option (ℕ × Command) → Option (ℕ × Command)
better None later = later
better (Some first) None = Some first
better (Some first) (Some later) = if nat_lt first.0 later.0 then Some later else Some first

-- the vote of highest ballot, the first one of equal ballots
abbrev pub highest : List (ℕ × Command) → Option (ℕ × Command)
highest [] = None
highest (vote ∷ later) = better (Some vote) (highest later)

-- the vote of highest ballot at a slot
abbrev pub top_vote : ℕ → List Record → Option (ℕ × Command)
top_vote slot entries = highest (votes_at slot entries)

-- a vote that is lent, as plain data
abbrev pub told : Option (ℕ × Bor Command) → Option (ℕ × Command)
told None = None
told (Some vote) = Some (vote.0, vote.1.now)
