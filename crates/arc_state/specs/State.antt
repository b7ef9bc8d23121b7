-- What a kept state stands for, and what a command does to it.
use Rattle.std.specs.Prelude.{ℕ, ◌≡◌, ◌≤◌}
use Rattle.arc_data.specs.declared.command.Command.{Command}
use Rattle.arc_data.specs.declared.command.TheConstants.{MAX_MS}
use Rattle.arc_data.specs.declared.reply.Reply.{Reply}
use Rattle.arc_plain.specs.State.{Plain}
use Rattle.arc_plain.specs.Cluster.{answer, next}
use Rattle.arc_plain.specs.Laws.{IsOrderly}
use Rattle.arc_state.specs.declared.parts.Parts.{Parts}
use Rattle.arc_state.specs.Standing.{StandsFor}

-- There is a plain state for which the parts stand, one in which the laws of the plain cluster hold.
pub record AreKept (parts : Parts) : Type 0 where
  pub plain : Plain
  pub stands : StandsFor parts plain
  pub orderly : IsOrderly plain
  pub in_time : parts.time ≤ MAX_MS

-- how many commands were given
abbrev pub count_of : Parts → ℕ
count_of parts = parts.count

-- list time
abbrev pub time_of : Parts → ℕ
time_of parts = parts.time

-- In every plain state that the old value stands for, the reply is the plain cluster's answer, and the new value
-- stands for the next state.
abbrev pub Applies : Parts → Command → Reply → Parts → Type 0
Applies old c reply new =
    (plain : Plain) → StandsFor old plain → (reply ≡ answer plain c) × StandsFor new (next plain c)
