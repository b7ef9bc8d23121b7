-- What the lines so far show of the node.
use Rattle.std.specs.Prelude.{ℕ, ◌+◌, Bool, true, false, List, fold, count_by}
use Rattle.arc_drill.specs.Line.{Line}
use Rattle.arc_drill.specs.Line.Line.{SlotsAre, Placed, ListFull, NodeDown, Crashed, Up, JournalFull, DiskFailed}

-- Whether a node is shown down after a line. A crash, a call that found it down and a restart that failed show it down;
-- a restart that succeeded ends that.
abbrev pub shows_down : Bool → Line → Bool
shows_down so_far (SlotsAre slots) = so_far
shows_down so_far (Placed slot reply) = so_far
shows_down so_far (ListFull length) = so_far
shows_down so_far NodeDown = true
shows_down so_far Crashed = true
shows_down so_far (Up inc) = false
shows_down so_far (JournalFull count) = true
shows_down so_far DiskFailed = true

-- Whether a node may be down after a line because a crash took it down.
abbrev pub exposes : Bool → Line → Bool
exposes so_far (SlotsAre slots) = so_far
exposes so_far (Placed slot reply) = so_far
exposes so_far (ListFull length) = so_far
exposes so_far NodeDown = so_far
exposes so_far Crashed = true
exposes so_far (Up inc) = false
exposes so_far (JournalFull count) = so_far
exposes so_far DiskFailed = so_far

-- whether these lines show the node down
abbrev pub is_shown_down : List Line → Bool
is_shown_down lines = fold shows_down false lines

-- whether a crash took the node down, and no restart brought it up again since
abbrev pub is_exposed : List Line → Bool
is_exposed lines = fold exposes false lines

-- whether a node keeps one entry more after a line
abbrev pub keeps_one : Line → Bool
keeps_one (SlotsAre slots) = false
keeps_one (Placed slot reply) = true
keeps_one (ListFull length) = false
keeps_one NodeDown = false
keeps_one Crashed = false
keeps_one (Up inc) = true
keeps_one (JournalFull count) = false
keeps_one DiskFailed = false

-- how many entries these lines show: that of the first start, and one for each call that has a place and each start
abbrev pub entries_shown : List Line → ℕ
entries_shown lines = 1 + count_by keeps_one lines

-- whether a line says that the list is full
abbrev pub says_full : Line → Bool
says_full (SlotsAre slots) = false
says_full (Placed slot reply) = false
says_full (ListFull length) = true
says_full NodeDown = false
says_full Crashed = false
says_full (Up inc) = false
says_full (JournalFull count) = false
says_full DiskFailed = false
