-- The list of commands, and the calls that it comes from.
use Rattle.std.specs.Prelude.{ℕ, ◌≡◌, ◌<◌, ◌≤◌, ⊤, false, List, length, take, slice_get, Option, Some, None}
use Rattle.arc_data.specs.declared.command.Command.{Command}
use Rattle.arc_script.specs.declared.step.Step.{Step}
use Rattle.arc_script.specs.declared.step.Step.TheVariants.{Slots, Call, Crash, Restart}
use Rattle.arc_drill.specs.Each.{Each}
use Rattle.arc_drill.specs.Line.{Line, slot_in}
use Rattle.arc_drill.specs.Line.Line.{SlotsAre, Placed, ListFull, NodeDown, Crashed, Up, JournalFull, DiskFailed}
use Rattle.arc_drill.specs.Shown.{is_shown_down, says_full}

-- a command is this call's: it has its endpoint, time, token and operation
abbrev pub IsCall : Step → Command → Type 0
IsCall (Slots n) c = ⊥
IsCall (Call node at_ms token op) c = (c.id.node ≡ node) × (c.at_ms ≡ at_ms) × (c.token ≡ token) × (c.op ≡ op)
IsCall (Crash node) c = ⊥
IsCall (Restart node) c = ⊥

-- a command is the call of the step at this place of the script
abbrev pub IsCallAt : List Step → ℕ → Command → Type 0
IsCallAt steps k c = (step : Step) × (slice_get steps k ≡ Some step) × IsCall step c

-- The line of a call whose command stands at this place of the list tells the place. It says that the node is down only
-- where the disk failed. There is no line where the call was begun and didn't end.
abbrev pub TellsPlace : Type 0 → ℕ → Option Line → Type 0
TellsPlace failed place None = ⊤
TellsPlace failed place (Some (SlotsAre slots)) = ⊥
TellsPlace failed place (Some (Placed slot reply)) = slot ≡ place
TellsPlace failed place (Some (ListFull length)) = ⊥
TellsPlace failed place (Some NodeDown) = failed
TellsPlace failed place (Some Crashed) = ⊥
TellsPlace failed place (Some (Up inc)) = ⊥
TellsPlace failed place (Some (JournalFull count)) = ⊥
TellsPlace failed place (Some DiskFailed) = ⊥

-- The list comes from the calls of these steps of the script, one a place, in order. Each was begun: it has a line, or
-- comes next. Each could have its place: no line before it shows the node down, and none found the list full.
pub record ComesFrom (failed : Type 0) (steps : List Step) (lines : List Line) (list : List Command) (from : List ℕ)
    : Type 0 where
  pub one_each : length from ≡ length list
  pub in_order : (s t j k : ℕ) → s < t → slice_get from s ≡ Some j → slice_get from t ≡ Some k → j < k
  pub begun : (s k : ℕ) → slice_get from s ≡ Some k → k ≤ length lines
  pub up : (s k : ℕ) → slice_get from s ≡ Some k → is_shown_down (take k lines) ≡ false
  pub room : (s k : ℕ) → slice_get from s ≡ Some k → Each (λ line. says_full line ≡ false) (take k lines)
  pub calls : (s k : ℕ) (c : Command) → slice_get from s ≡ Some k → slice_get list s ≡ Some c → IsCallAt steps k c
  pub told : (s k : ℕ) → slice_get from s ≡ Some k → TellsPlace failed s (slice_get lines k)
  -- a line that tells a place is that of the place's step
  pub places : (k s : ℕ) (line : Line) → slice_get lines k ≡ Some line → slot_in line ≡ Some s → slice_get from s ≡ Some k
