-- What a line of a report tells of its step, and how it is spelled.
use Rattle.std.specs.Prelude.{ℕ, ◌++◌, List, Option, Some, None, codes, decimal}
use Rattle.arc_data.specs.declared.reply.Reply.{Reply}
use Rattle.arc_json.specs.Reply.{status_of, text_of}
use Rattle.arc_plain.specs.Cluster.{token_at}

-- What a line tells:
pub data Line : Type 0 where
  -- how many commands the list takes
  SlotsAre : (slots : ℕ) → Line
  -- a call has this place in the list, and this reply
  Placed : (slot : ℕ) (reply : Reply) → Line
  -- a call found the list full, with so many commands
  ListFull : (length : ℕ) → Line
  -- a call found the node down
  NodeDown : Line
  -- the node was taken down, and its disk crashed
  Crashed : Line
  -- the node is up again, for the time with this number
  Up : (inc : ℕ) → Line
  -- the node's journal is full, with so many entries
  JournalFull : (count : ℕ) → Line
  -- the node's disk failed while it was started
  DiskFailed : Line

-- a call that has its place in the list: the place, the token that its reply carries, and the reply's status and text
unfoldable pub slot_line : ℕ → Reply → List ℕ
slot_line slot reply =
    codes "slot " ++ decimal slot ++ codes " token " ++ decimal (token_at slot) ++ codes " " ++ decimal (status_of reply)
    ++ codes " " ++ text_of reply ++ codes "\n"

-- a word, a number and the end of a line
unfoldable pub numbered : List ℕ → ℕ → List ℕ
numbered word number = word ++ decimal number ++ codes "\n"

-- the text of each line, which ends in LF
abbrev pub text : Line → List ℕ
text (SlotsAre slots) = numbered (codes "slots ") slots
text (Placed slot reply) = slot_line slot reply
text (ListFull length) = numbered (codes "full ") length
text NodeDown = codes "down 0\n"
text Crashed = codes "crash 0\n"
text (Up inc) = numbered (codes "restart 0 up ") inc
text (JournalFull count) = numbered (codes "restart 0 full ") count
text DiskFailed = codes "restart 0 disk\n"

-- the place in the list that a line tells
abbrev pub slot_in : Line → Option ℕ
slot_in (SlotsAre slots) = None
slot_in (Placed slot reply) = Some slot
slot_in (ListFull length) = None
slot_in NodeDown = None
slot_in Crashed = None
slot_in (Up inc) = None
slot_in (JournalFull count) = None
slot_in DiskFailed = None

-- the number of a start that a line tells
abbrev pub inc_in : Line → Option ℕ
inc_in (SlotsAre slots) = None
inc_in (Placed slot reply) = None
inc_in (ListFull length) = None
inc_in NodeDown = None
inc_in Crashed = None
inc_in (Up inc) = Some inc
inc_in (JournalFull count) = None
inc_in DiskFailed = None
