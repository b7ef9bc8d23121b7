-- How a call is answered whose attempts ended so.
use Rattle.std.specs.Prelude.{ℕ, ◌≡◌, ◌<◌, ◌≤◌, ⊤, List, length}
use Rattle.arc_data.specs.declared.command.Command.{Command}
use Rattle.arc_node.specs.Node.{kept}
use Rattle.arc_node.specs.declared.node.Node.{Node}
use Rattle.arc_plain.specs.Cluster.{token_at}
use Rattle.arc_state.specs.State.{count_of}
use Rattle.arc_state.specs.declared.parts.Parts.{Parts}
use Rattle.arc_voting.specs.Lists.{applied}
use Rattle.arc_engine.specs.CatchingUp.{HasDone}
use Rattle.arc_engine.specs.Engine.{IsBehind}
use Rattle.arc_engine.specs.declared.call_end.CallEnd.{CallEnd}
use Rattle.arc_engine.specs.declared.call_end.CallEnd.TheVariants as ends
use Rattle.arc_engine.specs.declared.calling.Placing.{Placing}
use Rattle.arc_engine.specs.declared.calling.Placing.TheVariants.{Placed, Disturbed, NodeDown, ListFull, Memory}

-- A state can be brought up to this slot of a list: the list has it, and the state is behind the list and has done nothing from the
-- slot on.
pub record CanDo (list : List Command) (slot : ℕ) (state : Parts) : Type 0 where
  pub behind : IsBehind state list
  pub before : count_of state ≤ slot
  pub there : slot < length list

-- Where a command was placed, the state can be brought up to its slot in the endpoint's list.
abbrev pub CanAnswer : {D : Type 0} → Node D → Parts → Placing → Type 0
CanAnswer endpoint state (Placed slot) = CanDo (applied (kept endpoint)) slot state
CanAnswer endpoint state (Disturbed tallies) = ⊤
CanAnswer endpoint state (NodeDown node) = ⊤
CanAnswer endpoint state (ListFull length) = ⊤
CanAnswer endpoint state Memory = ⊤

-- A call whose command was placed at this slot is answered there, once the state has done the command, unless memory is wanting.
abbrev pub AnswersPlaced : List Command → ℕ → Parts → CallEnd → Type 0
AnswersPlaced list slot state (ends.Answered place reply token) = (place ≡ slot) × (token ≡ token_at slot) × HasDone list slot reply state
AnswersPlaced list slot state (ends.Unavailable tallies) = ⊥
AnswersPlaced list slot state (ends.NodeDown node) = ⊥
AnswersPlaced list slot state (ends.ListFull length) = ⊥
AnswersPlaced list slot state ends.Memory = ⊤

-- How a call is answered, by how its attempts ended, and what becomes of the state: it is brought up where the command was placed,
-- as far as there is memory, and stays otherwise.
abbrev pub Answers : {D : Type 0} → Node D → Parts → Parts → Placing → CallEnd → Type 0
Answers endpoint before after (Placed slot) result =
    IsBehind after (applied (kept endpoint)) × (count_of before ≤ count_of after) × AnswersPlaced (applied (kept endpoint)) slot after result
Answers endpoint before after (Disturbed tallies) result = (after ≡ before) × (result ≡ ends.Unavailable tallies)
Answers endpoint before after (NodeDown node) result = (after ≡ before) × (result ≡ ends.NodeDown node)
Answers endpoint before after (ListFull length) result = (after ≡ before) × (result ≡ ends.ListFull length)
Answers endpoint before after Memory result = (after ≡ before) × (result ≡ ends.Memory)
