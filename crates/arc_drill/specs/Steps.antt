-- What one step makes of the node and of the plain state: words for the functions inside. The contract of the drill rests
-- on none of these, but on what a report tells, line by line.
use Rattle.std.specs.Prelude.{ℕ, ◌≡◌, ◌<◌, ◌≤◌, ◌⊎◌, false, true, ◌++◌, List, [], ◌∷◌, length, slice_get, None, Some, Option, codes}
use Rattle.arc_bytes.specs.Counts.{HasRisen}
use Rattle.arc_data.specs.Valid.{IsValid}
use Rattle.arc_data.specs.declared.command.Command.{Command}
use Rattle.arc_ids.specs.declared.command_id.CommandId.{CommandId}
use Rattle.arc_data.specs.declared.command.TheConstants.{MAX_MS}
use Rattle.arc_data.specs.declared.message.Message.{Message}
use Rattle.arc_data.specs.declared.op.Op.{Op}
use Rattle.arc_data.specs.declared.record.Record.{Record}
use Rattle.arc_data.specs.declared.record.Record.TheVariants.{Closed}
use Rattle.arc_data.specs.declared.reply.Reply.{Reply}
use Rattle.arc_node.specs.Comparing.{IsKeptOrWith}
use Rattle.arc_node.specs.Node.{KeepsList, IsPossible, disk_in, doubt_of, is_up, kept, limit_of, number_of, slots_in}
use Rattle.arc_node.specs.Starting.{IsFull, IsInDoubt, StartsBehind, StaysShut}
use Rattle.arc_node.specs.Handling.{EndsHandling}
use Rattle.arc_node.specs.declared.handle_end.HandleEnd.{HandleEnd}
use Rattle.arc_node.specs.declared.handle_end.HandleEnd.TheVariants as handled
use Rattle.arc_node.specs.declared.node.Node.{Node}
use Rattle.arc_node.specs.declared.restart.Restart.{Restart}
use Rattle.arc_node.specs.declared.restart.Restart.TheVariants as ends
use Rattle.arc_plain.specs.Cluster.{fold_of}
use Rattle.arc_script.specs.declared.step.Step.{Step}
use Rattle.arc_script.specs.declared.step.Step.TheVariants.{Call}
use Rattle.arc_state.specs.declared.parts.Parts.{Parts}
use Rattle.arc_state.specs.State.{Applies}
use Rattle.arc_state.specs.Standing.{StandsFor}
use Rattle.arc_voting.specs.Journals.{last_inc}
use Rattle.arc_voting.specs.Lists.{applied}
use Rattle.arc_drill.specs.declared.learning.Learned.{Learned}
use Rattle.arc_drill.specs.declared.learning.Learned.TheVariants.{Done, Fallen, Memory}
use Rattle.arc_drill.specs.declared.starting.Start.{Start}
use Rattle.arc_drill.specs.declared.starting.Start.TheVariants as starts
use Rattle.arc_drill.specs.Each.{Each}
use Rattle.arc_drill.specs.Line.{Line, numbered, text}
use Rattle.arc_drill.specs.Line.Line.{Placed, Up, JournalFull, DiskFailed}
use Rattle.arc_drill.specs.SoFar.{SoFar}
use Rattle.arc_drill.specs.Telling.{Tells, slots_of}

-- ---- what holds of the node and the state between two steps, on any disk

-- A command that the plain state can be given.
pub record IsDoable (c : Command) : Type 0 where
  pub op : IsValid c.op
  pub time : c.at_ms ≤ MAX_MS

-- The commands of a list of entries can be done, and the node was started.
pub record IsFitList (list : List Record) : Type 0 where
  pub doable : Each IsDoable (applied list)
  pub started : 1 ≤ last_inc list

-- Each list that the journal may have is fit.
abbrev pub AreFit : List Record → Option Record → Type 0
AreFit kept doubt = (list : List Record) → IsKeptOrWith kept doubt list → IsFitList list

-- The node is node 0, each list that it may have is fit, and the plain state is that after the list that it keeps.
pub record IsFit {D : Type 0} (node : Node D) (state : Parts) : Type 0 where
  pub number : number_of node ≡ 0
  pub lists : AreFit (kept node) (doubt_of node)
  pub after : StandsFor state (fold_of (applied (kept node)))

-- The plain state is that after a list, or all but its last command.
abbrev pub IsBehind : Parts → List Command → Type 0
IsBehind state list =
    StandsFor state (fold_of list)
    ⊎ ((front : List Command) × (last : Command) × (list ≡ front ++ last ∷ []) × StandsFor state (fold_of front))

-- ---- what is told of them, on a disk that tells its content

-- Steps are done and told so far, and the count of faults was this one at first.
pub record Stands {D : Type 0} (faults : D → ℕ) (first : ℕ) (steps : List Step) (lines : List Line) (node : Node D) : Type 0 where
  pub so_far : SoFar (HasRisen first (faults (disk_in node))) steps lines (kept node) (doubt_of node) (is_up node)
  pub slots : slots_in node ≡ slots_of steps
  pub later : first ≤ faults (disk_in node)

-- The next step is done, and this is its line.
pub record IsDone {D : Type 0} (faults : D → ℕ) (first : ℕ) (steps : List Step) (lines : List Line) (line : List ℕ) (node : Node D)
    : Type 0 where
  pub told : Line
  pub spelled : line ≡ text told
  pub stands : Stands faults first steps (lines ++ told ∷ []) node

-- Whichever list the journal has, these lines are a report.
abbrev pub CanEnd : {D : Type 0} (faults : D → ℕ) → ℕ → List Step → List Line → Node D → Type 0
CanEnd faults first steps lines node =
    (list : List Record) → IsPossible node list → Tells (HasRisen first (faults (disk_in node))) steps lines list

-- Where steps were done so far and this is the next one, it is done then.
abbrev pub Does : {D : Type 0} (faults : D → ℕ) → Node D → Step → List ℕ → Node D → Type 0
Does faults old step line new =
    (first : ℕ) (steps : List Step) (lines : List Line) → Stands faults first steps lines old →
    slice_get steps (length lines) ≡ Some step → IsDone faults first steps lines line new

-- Where steps were done so far and this is the next one, the drill can end in it.
abbrev pub Ends : {D : Type 0} (faults : D → ℕ) → Node D → Step → Node D → Type 0
Ends faults old step new =
    (first : ℕ) (steps : List Step) (lines : List Line) → Stands faults first steps lines old →
    slice_get steps (length lines) ≡ Some step → CanEnd faults first steps lines new

-- ---- calls

-- the command of a call that has this identifier
abbrev pub of_call : CommandId → ℕ → ℕ → Op → Command
of_call id at_ms token op = record { id = id; at_ms = at_ms; token = token; op = op }

-- the call of a command
abbrev pub asked : Command → Step
asked c = Call c.id.node c.at_ms c.token c.op

-- What became of an up node that was told this command at the end of its list.
abbrev pub Learns : {D : Type 0} (faults : D → ℕ) → Node D → Node D → ℕ → Command → Learned → Type 0
Learns faults old new slot c Done =
    (is_up new ≡ true) × (length (kept old) < limit_of old) × (kept new ≡ kept old ++ Closed slot c ∷ []) × (doubt_of new ≡ None)
Learns faults old new slot c Fallen =
    (is_up new ≡ false) × (kept new ≡ kept old)
    × ((HasRisen (faults (disk_in old)) (faults (disk_in new)) × (length (kept old) < limit_of old) × (doubt_of new ≡ Some (Closed slot c)))
    ⊎ ((length (kept old) ≡ limit_of old) × (doubt_of new ≡ None)))
Learns faults old new slot c Memory = (is_up new ≡ true) × KeepsList old new

-- how it ended that a node was told a message, without its answer
abbrev pub learned_of : HandleEnd → Learned
learned_of (handled.Answered reply) = Done
learned_of handled.Down = Fallen
learned_of handled.Memory = Memory

-- What became of a node that was told a message, by how that ended.
abbrev pub HandlesAs : {D : Type 0} (faults : D → ℕ) → Node D → Node D → Message → Learned → Type 0
HandlesAs faults old new message learned = (end : HandleEnd) × (learned ≡ learned_of end) × EndsHandling faults old new message end

-- The state did this command, and its reply is told.
pub record IsAnswered (slot : ℕ) (state state' : Parts) (c : Command) (line : List ℕ) : Type 0 where
  pub reply : Reply
  pub applies : Applies state c reply state'
  pub spelled : line ≡ text (Placed slot reply)

-- ---- starts

-- how a start ended, without the entries that were found
abbrev pub start_of : Restart → Start
start_of (ends.Up inc) = starts.Up inc
start_of (ends.Full count) = starts.Full count
start_of ends.Disk = starts.Disk
start_of (ends.NotOurs place) = starts.NotOurs place
start_of (ends.Rotten place stored computed) = starts.Rotten place
start_of (ends.Damaged place its found) = starts.Damaged place
start_of ends.Memory = starts.Memory

-- What became of a node that was started again. A disk that tells its content is never accused.
abbrev pub StartsAgain : {D : Type 0} (tells : Type 0) (faults : D → ℕ) → Node D → Node D → Start → Type 0
StartsAgain tells faults old new (starts.Up inc) = (list : List Record) × IsPossible old list × StartsBehind old new list inc
StartsAgain tells faults old new (starts.Full count) = (list : List Record) × IsPossible old list × IsFull old new list count
StartsAgain tells faults old new starts.Disk =
    HasRisen (faults (disk_in old)) (faults (disk_in new)) × (is_up new ≡ false)
    × (KeepsList old new ⊎ ((list : List Record) × IsPossible old list × IsInDoubt old new list))
StartsAgain tells faults old new (starts.NotOurs place) = StaysShut old new × (tells → ⊥)
StartsAgain tells faults old new (starts.Rotten place) = StaysShut old new × (tells → ⊥)
StartsAgain tells faults old new (starts.Damaged place) = StaysShut old new × (tells → ⊥)
StartsAgain tells faults old new starts.Memory = StaysShut old new

-- The line of a start. Over a disk that tells its content none accuses the disk.
abbrev pub SpellsStart : Start → List ℕ → Type 0
SpellsStart (starts.Up inc) line = line ≡ text (Up inc)
SpellsStart (starts.Full count) line = line ≡ text (JournalFull count)
SpellsStart starts.Disk line = line ≡ text DiskFailed
SpellsStart (starts.NotOurs place) line = line ≡ numbered (codes "restart 0 notours ") place
SpellsStart (starts.Rotten place) line = line ≡ numbered (codes "restart 0 rotten ") place
SpellsStart (starts.Damaged place) line = line ≡ numbered (codes "restart 0 damaged ") place
SpellsStart starts.Memory line = ⊥
