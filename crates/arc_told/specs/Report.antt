-- The steps of a drill over five nodes, each with what its line tells.
use Rattle.std.specs.Prelude.{ℕ, zero, suc, ◌≡◌, ◌==◌, ◌/◌, ◌%◌, ◌^◌, Bool, not, List, Option, count_by}
use Rattle.arc_courier.specs.declared.courier.Fate.{Fate}
use Rattle.arc_data.specs.declared.command.Command.{Command}
use Rattle.arc_data.specs.declared.message.Answer.{Answer}
use Rattle.arc_data.specs.declared.op.Op.{Op}
use Rattle.arc_data.specs.declared.reply.Reply.{Reply}

-- What a call asks for, where and when.
pub record Asked : Type 0 where
  pub endpoint : ℕ
  pub at_ms : ℕ
  pub token : ℕ
  pub op : Op

-- a command is this call's: it has its endpoint, time, token and operation
abbrev pub IsCall : Asked → Command → Type 0
IsCall asked c = (c.id.node ≡ asked.endpoint) × (c.at_ms ≡ asked.at_ms) × (c.token ≡ asked.token) × (c.op ≡ asked.op)

-- What is told of an attempt that was disturbed: the slot, and a bit for each clear node.
pub record Tally : Type 0 where
  pub slot : ℕ
  pub clear : ℕ

-- the digit of a node is set
abbrev pub has_digit : ℕ → ℕ → Bool
has_digit clear node = clear / 2 ^ node % 2 == 1

-- how many of these tallies lack the digit of a node
abbrev pub lacks : List Tally → ℕ → ℕ
lacks tallies node = count_by (λ tally. not (has_digit tally.clear node)) tallies

-- The length of each node's list; of a node that isn't up none.
pub record Lengths : Type 0 where
  pub d0 : Option ℕ
  pub d1 : Option ℕ
  pub d2 : Option ℕ
  pub d3 : Option ℕ
  pub d4 : Option ℕ

-- the length of one node's list
abbrev pub length_of : Lengths → ℕ → Option ℕ
length_of lengths zero = lengths.d0
length_of lengths (suc zero) = lengths.d1
length_of lengths (suc (suc zero)) = lengths.d2
length_of lengths (suc (suc (suc zero))) = lengths.d3
length_of lengths (suc (suc (suc (suc node)))) = lengths.d4

-- What a disk is accused of: that it has other entries than its node may have, no journal of the node, or one whose bytes were changed.
pub data Accusation : Type 0 where
  Damaged : Accusation
  NotOurs : Accusation
  Rotten : Accusation

-- A step that is done, with what its line tells. Nodes and peers are 0 to 4.
pub data Reported : Type 0 where
  -- how many commands the list takes
  SlotsAre : (n : ℕ) → Reported
  -- a call has this place, with this token and reply
  Placed : (asked : Asked) (slot token : ℕ) (reply : Reply) → Reported
  -- a call whose attempts were disturbed
  Unavailable : (asked : Asked) (tallies : List Tally) → Reported
  -- a call that found this node down
  FoundDown : (asked : Asked) (node : ℕ) → Reported
  -- a call that found the list full, with so many commands
  FoundFull : (asked : Asked) (length : ℕ) → Reported
  -- the fates of a peer are these now: once, or again and again
  Net : (peer : ℕ) (cycle : Bool) (fates : List Fate) → Reported
  -- the held message with this number was delivered, and answered so
  Delivered : (k : ℕ) (answer : Answer) → Reported
  -- it was delivered to a node that is down
  MetDown : (k : ℕ) → Reported
  -- there is no message with this number, but so many
  NoSuch : (k held : ℕ) → Reported
  -- the disk of a node is told to stop in the device call with this number
  Stop : (node calls fill : ℕ) → Reported
  -- a node is taken down, and its disk crashed
  Crash : (node : ℕ) → Reported
  -- a node is up again, for the time with this number
  Up : (node inc : ℕ) → Reported
  -- the journal of a node that was to start again is full, with so many entries
  JournalFull : (node count : ℕ) → Reported
  -- the disk of a node failed while it was started
  DiskFailed : (node : ℕ) → Reported
  -- the disk of a node that was to start again is accused of holding something else than its journal, from this place on
  Accused : (node : ℕ) (cause : Accusation) (place : ℕ) → Reported
  -- how long the lists are
  Lists : (lengths : Lengths) → Reported
