-- What a report tells of the steps of a script. `failed` holds where the count of faults of the node's disk rose in this
-- drill.
use Rattle.std.specs.Prelude.{ℕ, ◌≡◌, ◌⊎◌, ◌<◌, ◌≤◌, ◌+◌, ⊤, true, false, List, ◌∷◌, length, take, slice_get, Some, IfSome}
use Rattle.arc_data.specs.declared.command.Command.{Command}
use Rattle.arc_data.specs.declared.record.Record.{Record}
use Rattle.arc_data.specs.declared.record.Record.TheVariants.{Opened}
use Rattle.arc_data.specs.declared.reply.Reply.{Reply}
use Rattle.arc_ids.specs.declared.command_id.CommandId.{CommandId}
use Rattle.arc_journal.specs.Layout.{entry_limit}
use Rattle.arc_plain.specs.Cluster.{answer, fold_of}
use Rattle.arc_voting.specs.Journals.{last_inc, opened_count, since_opened}
use Rattle.arc_voting.specs.Lists.{applied}
use Rattle.arc_voting.specs.Sound.{OnClosed}
use Rattle.arc_voting.specs.Tracks.{IsWellFormedWhole}
use Rattle.arc_script.specs.declared.step.Step.{Step}
use Rattle.arc_script.specs.declared.step.Step.TheVariants.{Slots, Call, Crash, Restart}
use Rattle.arc_drill.specs.Each.{Each}
use Rattle.arc_drill.specs.Line.{Line, slot_in, inc_in}
use Rattle.arc_drill.specs.Line.Line.{SlotsAre, Placed, ListFull, NodeDown, Crashed, Up, JournalFull, DiskFailed}
use Rattle.arc_drill.specs.Shown.{entries_shown, is_shown_down, is_exposed, says_full}
use Rattle.arc_drill.specs.Calls.{IsCall, ComesFrom}

-- The line of a call that has this place: the command there is the call's, the reply is the plain cluster's answer to it
-- after the commands before, earlier calls have lower places, none found the list full, and nothing shows the node down.
pub record IsPlaced (list : List Command) (before : List Line) (step : Step) (slot : ℕ) (reply : Reply) : Type 0 where
  pub command : Command
  pub there : slice_get list slot ≡ Some command
  pub asked : IsCall step command
  pub answered : reply ≡ answer (fold_of (take slot list)) command
  pub later : Each (λ line. IfSome (slot_in line) (λ s. s < slot)) before
  pub room : Each (λ line. says_full line ≡ false) before
  pub up : is_shown_down before ≡ false

-- so many commands are as many as the list takes, and as it has
abbrev pub IsListFull : ℕ → List Command → ℕ → Type 0
IsListFull slots list n = (n ≡ slots) × (n ≡ length list)

-- A call finds the node down only where a crash took it down, where its journal has as many entries as it takes, or where
-- its disk failed.
abbrev pub MayBeDown : Type 0 → ℕ → List Line → Type 0
MayBeDown failed slots before = (is_exposed before ≡ true) ⊎ ((entries_shown before ≡ entry_limit slots) ⊎ failed)

-- A call finds the node down, for one of these causes, and no line before it shows the list to be full: no call has its last
-- place, and none found it full.
pub record IsDown (failed : Type 0) (slots : ℕ) (before : List Line) : Type 0 where
  pub cause : MayBeDown failed slots before
  pub room : Each (λ line. IfSome (slot_in line) (λ s. s + 1 < slots)) before
  pub not_full : Each (λ line. says_full line ≡ false) before

-- The journal has so many entries, and takes no more. The lines before show that many, unless the disk failed.
pub record IsJournalFull (failed : Type 0) (slots : ℕ) (journal : List Record) (before : List Line) (count : ℕ) : Type 0 where
  pub counted : count ≡ length journal
  pub at_the_limit : count ≡ entry_limit slots
  pub shown : (entries_shown before ≡ count) ⊎ failed

-- The node was started with this number, not for the first time: the journal says so behind one start less, and behind just
-- the entries that the lines before show, unless the disk failed. Earlier lines tell lower numbers.
pub record IsStarted (failed : Type 0) (journal : List Record) (before : List Line) (inc : ℕ) : Type 0 where
  pub place : ℕ
  pub there : slice_get journal place ≡ Some (Opened inc)
  pub number : inc ≡ opened_count (take place journal) + 1
  pub shown : (place ≡ entries_shown before) ⊎ failed
  pub again : 1 < inc
  pub later : Each (λ line. IfSome (inc_in line) (λ i. i < inc)) before

-- What the line of a step tells, after the lines before it, where the list takes so many commands and this is the node's
-- journal in the end. No step has a line of another kind.
abbrev pub TellsLine : Type 0 → ℕ → List Record → List Line → Step → Line → Type 0
TellsLine failed slots journal before (Slots n) (SlotsAre m) = m ≡ n
TellsLine failed slots journal before (Call node at_ms token op) (Placed slot reply) =
    IsPlaced (applied journal) before (Call node at_ms token op) slot reply
TellsLine failed slots journal before (Call node at_ms token op) (ListFull n) = IsListFull slots (applied journal) n
TellsLine failed slots journal before (Call node at_ms token op) NodeDown = IsDown failed slots before
TellsLine failed slots journal before (Crash node) Crashed = ⊤
TellsLine failed slots journal before (Restart node) (Up inc) = IsStarted failed journal before inc
TellsLine failed slots journal before (Restart node) (JournalFull count) = IsJournalFull failed slots journal before count
TellsLine failed slots journal before (Restart node) DiskFailed = failed
TellsLine failed slots journal before step line = ⊥

-- how many commands the list takes: what the first step says, or 4,096
abbrev pub slots_of : List Step → ℕ
slots_of (Slots n ∷ steps) = n
slots_of steps = 4096

-- The journal has the entries that the lines show: that of the first start, and one for each call that has its place and each
-- later start. It has one more where a step was begun that has no line.
abbrev pub IsCounted : List Step → List Line → List Record → Type 0
IsCounted steps lines journal =
    (length journal ≡ entries_shown lines)
    ⊎ ((length lines < length steps) × (length journal ≡ entries_shown lines + 1))

-- An identifier that was drawn behind these entries: it has the number of the last start, and how many entries stand behind
-- that start.
abbrev pub IsDrawn : List Record → CommandId → Type 0
IsDrawn before id = (id.inc ≡ last_inc before) × (id.n ≡ since_opened before)

-- Each command of a journal has the identifier that was drawn behind the entries before it.
abbrev pub AreDrawn : List Record → Type 0
AreDrawn journal =
    (place : ℕ) (entry : Record) → slice_get journal place ≡ Some entry →
    OnClosed entry (λ slot c. IsDrawn (take place journal) c.id)

-- These are lines of the first steps of a script, a line a step, and this is the node's journal in the end.
pub record Tells (failed : Type 0) (steps : List Step) (lines : List Line) (journal : List Record) : Type 0 where
  pub no_more : length lines ≤ length steps
  pub each : (k : ℕ) (step : Step) (line : Line) → slice_get steps k ≡ Some step → slice_get lines k ≡ Some line →
      TellsLine failed (slots_of steps) journal (take k lines) step line
  pub from : List ℕ
  pub origin : ComesFrom failed steps lines (applied journal) from
  pub counted : IsCounted steps lines journal ⊎ failed
  -- the list and the journal are no longer than they may be
  pub room : length (applied journal) ≤ slots_of steps
  pub within : length journal ≤ entry_limit (slots_of steps)
  -- starts are numbered from 1, commands stand in order from place 0, and no promise or vote was kept
  pub formed : IsWellFormedWhole 0 journal
  pub drawn : AreDrawn journal
