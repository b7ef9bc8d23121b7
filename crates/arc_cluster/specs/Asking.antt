-- What peers tell of themselves, and what they are told.
use Rattle.std.specs.Prelude.{ℕ, ◌≡◌, ◌<◌, ◌≤◌, ◌+◌, ◌-◌, ◌/◌, ◌^◌, ◌&&◌, Bool, Option, Some, None, IfSome, List, [], take, drop, max, min, nat_lt, if◌then◌else◌}
use Rattle.std.specs.Global.{Vec}
use Rattle.arc_bytes.specs.Five.{at}
use Rattle.arc_bytes.specs.declared.five.Five.{Five}
use Rattle.arc_data.specs.declared.command.Command.{Command}
use Rattle.arc_data.specs.declared.message.Answer.{Answer}
use Rattle.arc_data.specs.declared.message.Answer.TheVariants.{At, Known, Behind, Refused, Promise, Accepted, Learned}
use Rattle.arc_data.specs.declared.message.Message.{Message}
use Rattle.arc_proposer.specs.Proposing.{shown_by}
use Rattle.arc_voting.specs.Lawful.{Mail}
use Rattle.arc_voting.specs.Replies.{learns}
use Rattle.arc_cluster.specs.declared.work.Work.{Work}
use Rattle.arc_cluster.specs.Handling.{mail_of}

-- The closed length of a node, by its answer to a status or to a command that it was told; other answers leave it open.
abbrev pub length_by : ℕ → Answer → ℕ
length_by before (At length ballot known) = length
length_by before (Known slot c) = before
length_by before (Behind length) = before
length_by before (Refused ballot) = before
length_by before (Promise slot ballot vote) = before
length_by before (Accepted slot ballot) = before
length_by before (Learned length) = length

-- The same, where there may be no answer.
abbrev pub length_noted : ℕ → Option Answer → ℕ
length_noted before None = before
length_noted before (Some answer) = length_by before answer

-- The lengths of five nodes, after their answers.
abbrev pub lengths_noted : Five ℕ → Five (Option Answer) → Five ℕ
lengths_noted before answers = record {
  d0 = length_noted before.d0 answers.d0;
  d1 = length_noted before.d1 answers.d1;
  d2 = length_noted before.d2 answers.d2;
  d3 = length_noted before.d3 answers.d3;
  d4 = length_noted before.d4 answers.d4;
}

-- The highest ballot shown, after one more answer.
abbrev pub shown_noted : ℕ → Option Answer → ℕ
shown_noted shown None = shown
shown_noted shown (Some answer) = max shown (shown_by answer)

-- After the answers of five nodes.
abbrev pub shown_by_all : ℕ → Five (Option Answer) → ℕ
shown_by_all shown answers =
    shown_noted (shown_noted (shown_noted (shown_noted (shown_noted shown answers.d0) answers.d1) answers.d2) answers.d3) answers.d4

-- The command that an answer to a status names, where it names one.
abbrev pub known_in : Answer → Option Command
known_in (At length ballot known) = known
known_in (Known slot c) = None
known_in (Behind length) = None
known_in (Refused ballot) = None
known_in (Promise slot ballot vote) = None
known_in (Accepted slot ballot) = None
known_in (Learned length) = None

-- The command that is known already, or else the one that this answer names.
abbrev pub known_noted : Option Command → Option Answer → Option Command
known_noted (Some c) answer = Some c
known_noted None None = None
known_noted None (Some answer) = known_in answer

-- The command that the first of five answers names that names one.
abbrev pub first_known : Five (Option Answer) → Option Command
first_known answers =
    known_noted (known_noted (known_noted (known_noted (known_noted None answers.d0) answers.d1) answers.d2) answers.d3) answers.d4

-- No answer shows a ballot above 2 ^ 63.
abbrev pub AreInRange : Five (Option Answer) → Type 0
AreInRange answers = (node : ℕ) → node < 5 → IfSome (at answers node) (λ answer. shown_by answer ≤ 2 ^ 63)

-- The mail of five nodes has just these messages.
abbrev pub IsMail : Five (Vec Message) → Mail → Type 0
IsMail five mail = (node : ℕ) → node < 5 → mail_of five node ≡ mail node

-- No node has mail.
abbrev pub HasNoMail : Five (Vec Message) → Type 0
HasNoMail five = IsMail five (λ node. [])

-- A peer that is in lacks a command below the slot.
abbrev pub is_behind : Work → ℕ → Bool
is_behind work peer = at work.peers peer && nat_lt (at work.lengths peer) work.slot

-- The next commands of a list from one slot on, below another one, and at most 16.
abbrev pub next_told : List Command → ℕ → ℕ → List Command
next_told list from slot = take (min 16 (slot - from)) (drop from list)

-- The messages that tell a peer the next commands that it lacks; none to another node.
abbrev pub lacking : List Command → Work → ℕ → List Message
lacking list work peer =
    if is_behind work peer then learns (at work.lengths peer) (next_told list (at work.lengths peer) work.slot) else []

-- How many exchanges it takes to tell a peer what it lacks: one for each 16 commands, or part of them.
abbrev pub exchanges_left : Work → ℕ → ℕ
exchanges_left work peer = if at work.peers peer then (work.slot - at work.lengths peer + 15) / 16 else 0

-- Each peer that lacked something has one exchange fewer left, and no peer has more.
abbrev pub HasFewerLeft : Work → Work → Type 0
HasFewerLeft before after = (peer : ℕ) → peer < 5 →
    exchanges_left after peer + (if is_behind before peer then 1 else 0) ≤ exchanges_left before peer
