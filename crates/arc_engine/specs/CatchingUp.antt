-- What becomes of a state that is brought up to a list.
use Rattle.std.specs.Prelude.{ℕ, ◌≡◌, ◌+◌, Some, List, take}
use Rattle.std.specs.List.{slice_get}
use Rattle.arc_data.specs.declared.command.Command.{Command}
use Rattle.arc_data.specs.declared.reply.Reply.{Reply}
use Rattle.arc_plain.specs.Cluster.{answer, fold_of}
use Rattle.arc_state.specs.State.{count_of}
use Rattle.arc_state.specs.declared.parts.Parts.{Parts}

-- A state has done the commands of the list up to that at this slot, and the reply is the answer of that, after those before it.
pub record HasDone (list : List Command) (slot : ℕ) (reply : Reply) (state : Parts) : Type 0 where
  pub c : Command
  pub place : slice_get list slot ≡ Some c
  pub replied : reply ≡ answer (fold_of (take slot list)) c
  pub count : count_of state ≡ slot + 1

-- A state has done the next command of the list, and the reply is its answer.
abbrev pub HasDoneNext : List Command → Parts → Reply → Parts → Type 0
HasDoneNext list before reply after = HasDone list (count_of before) reply after
