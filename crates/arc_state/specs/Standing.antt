-- What the kept parts stand for.
use Rattle.std.specs.Prelude.{◌≡◌, ◌-◌, ◌^◌, ◌<◌, ◌≤◌, All, IsErr, Result, Ok}
use Rattle.arc_bytes.specs.declared.outcome.Memory.{Memory}
use Rattle.arc_data.specs.declared.command.TheConstants.{MAX_MS}
use Rattle.arc_data.specs.declared.part_end.PartEnd.{PartEnd}
use Rattle.arc_data.specs.declared.part_end.PartEnd.TheVariants.{Refused}
use Rattle.arc_data.specs.declared.part_end.PartEnd.TheVariants as end
use Rattle.arc_data.specs.declared.reply.Reply.{Reply}
use Rattle.arc_data.specs.declared.reply.Reply.TheVariants as reply
use Rattle.arc_plain.specs.State.{Effect, Plain}
use Rattle.arc_plain.specs.Cluster.{left_by, reply_of}
use Rattle.arc_plain.specs.Reads.{Telling, told_in}
use Rattle.arc_plain.specs.Shifts.{HaveStarted}
use Rattle.arc_practice.specs.Kept.{HaveStarted as RunsHaveStarted}
use Rattle.arc_rules.specs.Standing.{StandsFor as RulesStandFor, drawn_of}
use Rattle.arc_state.specs.declared.parts.Parts.{Parts}

-- Kept parts stand for a plain state where they are that state's parts; what is kept of the rules stands for its rules.
pub record StandsFor (parts : Parts) (plain : Plain) : Type 0 where
  pub time : parts.time ≡ plain.time
  pub count : parts.count ≡ plain.count
  pub panels : parts.controls.panels ≡ plain.controls.panels
  pub rules : RulesStandFor parts.controls.rules plain.controls.rules
  pub resources : parts.resources ≡ plain.resources
  pub shifts : parts.shifts ≡ plain.shifts
  pub practices : parts.practices ≡ plain.practices
  pub shifts_drawn : parts.shifts_drawn ≡ plain.shifts_drawn

-- In every plain state that the old parts stand for, the reply is that of the effect, and the new parts stand for the
-- state that it leaves.
abbrev pub Does : (Plain → Effect) → Parts → Reply → Parts → Type 0
Does row old reply new =
    (plain : Plain) → StandsFor old plain → (reply ≡ reply_of (row plain)) × StandsFor new (left_by plain (row plain))

-- In every plain state that the parts stand for, the reply tells what is told there.
abbrev pub Tells : (Plain → Telling) → Parts → Reply → Type 0
Tells row parts reply = (plain : Plain) → StandsFor parts plain → reply ≡ reply_of (told_in plain (row plain))

-- What the parts owe to an operation: one identifier of each kind can be drawn, and nothing that is kept begins later
-- than now.
pub record AreReady (parts : Parts) : Type 0 where
  pub panels : parts.controls.panels.panels_drawn < 2 ^ 64 - 1
  pub controls : parts.controls.panels.controls_drawn < 2 ^ 64 - 1
  pub rules : drawn_of parts.controls.rules < 2 ^ 64 - 1
  pub resources : parts.resources.drawn < 2 ^ 64 - 1
  pub shifts : parts.shifts_drawn < 2 ^ 64 - 1
  pub in_time : parts.time ≤ MAX_MS
  pub shifts_drawn : All (λ s. s.id.0 ≤ parts.shifts_drawn) parts.shifts
  pub shifts_started : HaveStarted parts.shifts parts.time
  pub runs_drawn : All (λ r. r.id.0 ≤ parts.shifts_drawn) parts.practices.runs
  pub runs_started : RunsHaveStarted parts.practices.runs parts.time

-- what the parts owe to a list of practice runs: none begins after the last moment of all
pub record AreTimely (parts : Parts) : Type 0 where
  pub in_time : parts.time ≤ MAX_MS
  pub runs_started : RunsHaveStarted parts.practices.runs parts.time

-- how an operation ends that a part ends badly: refused as the part refuses, or for want of memory
abbrev pub EndsAs : PartEnd → Result Reply Memory → Type 0
EndsAs (Refused refusal) result = result ≡ Ok (reply.Refused refusal)
EndsAs end.Memory result = IsErr result
