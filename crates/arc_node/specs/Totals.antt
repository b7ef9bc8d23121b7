-- What a list of entries says of the starts of its node.
use Rattle.std.specs.Prelude.{◌≡◌, ◌<◌, ◌+◌, ◌^◌, List, length}
use Rattle.arc_data.specs.declared.record.Record.{Record}
use Rattle.arc_data.specs.declared.record.Record.TheVariants.{Opened, Promised, Voted, Closed}
use Rattle.arc_voting.specs.Journals.{last_inc, since_opened}
use Rattle.arc_node.specs.declared.appending.Appended.{Appended}
use Rattle.arc_node.specs.declared.appending.Appended.TheVariants.{Done, Doubtful, Full, Memory}
use Rattle.arc_node.specs.declared.entries.Totals.{Totals}

-- All of it, by walks over the list.
abbrev pub totals_of : List Record → Totals
totals_of entries = record { inc = last_inc entries; since = since_opened entries }

-- The same with one entry more.
abbrev pub after : Totals → Record → Totals
after t (Opened inc) = record { inc = inc; since = 0 }
after t (Promised from ballot) = record { inc = t.inc; since = t.since + 1 }
after t (Voted slot ballot c) = record { inc = t.inc; since = t.since + 1 }
after t (Closed slot c) = record { inc = t.inc; since = t.since + 1 }

-- These totals, or those with one entry more, by how the append of that ended.
abbrev pub totals_at_end : Totals → Totals → Appended → Totals
totals_at_end t more Done = more
totals_at_end t more (Doubtful lost) = t
totals_at_end t more (Full count) = t
totals_at_end t more Memory = t

-- These totals are those of the entries, of which there are fewer than 2^32.
pub record AreCounted (entries : List Record) (totals : Totals) : Type 0 where
  pub few : length entries < 2 ^ 32
  pub counted : totals ≡ totals_of entries
