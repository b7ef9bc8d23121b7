-- The lists of commands that nodes have applied.
use Rattle.std.specs.Prelude.{Option, Some, None, List, if◌then◌else◌, nat_lt, length}
use Rattle.std.specs.List.{filter_map}
use Rattle.arc_data.specs.declared.command.Command.{Command}
use Rattle.arc_data.specs.declared.record.Record.{Record}
use Rattle.arc_data.specs.declared.record.Record.TheVariants.{Opened, Promised, Voted, Closed}
use Rattle.arc_voting.specs.Journals.{Journals}

-- The command that this entry closes a slot with.
abbrev pub closed_by : Record → Option Command
closed_by (Opened inc) = None
closed_by (Promised from ballot) = None
closed_by (Voted slot ballot c) = None
closed_by (Closed slot c) = Some c

-- The commands of a journal's `Closed` entries, in order.
abbrev pub applied : List Record → List Command
applied journal = filter_map closed_by journal

-- The longer of two lists; of two equally long ones the former.
abbrev pub longer : List Command → List Command → List Command
longer former later = if nat_lt (length former) (length later) then later else former

-- The longest of the five applied lists; among equally long ones that of the least node.
abbrev pub longest : Journals → List Command
longest js =
    longer (longer (longer (longer (applied (js 0)) (applied (js 1))) (applied (js 2))) (applied (js 3))) (applied (js 4))
