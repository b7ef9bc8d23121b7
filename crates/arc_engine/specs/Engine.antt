-- An engine: five nodes that keep one list, and the state that this list makes.
use Rattle.std.specs.Prelude.{ℕ, ◌≤◌, List, length, take}
use Rattle.arc_bytes.specs.Five.{at}
use Rattle.arc_bytes.specs.declared.five.Five.{Five}
use Rattle.arc_cluster.specs.Cluster as five
use Rattle.arc_data.specs.declared.command.Command.{Command}
use Rattle.arc_node.specs.Node.{kept}
use Rattle.arc_node.specs.declared.node.Node.{Node}
use Rattle.arc_plain.specs.Cluster.{fold_of}
use Rattle.arc_state.specs.Standing.{StandsFor}
use Rattle.arc_state.specs.State.{count_of}
use Rattle.arc_state.specs.declared.parts.Parts.{Parts}
use Rattle.arc_voting.specs.Journals.{Journals}
use Rattle.arc_voting.specs.Lists.{longest}
use Rattle.arc_engine.specs.declared.engine.Engine.{Engine}

-- The entries that five nodes keep.
abbrev pub all_kept : {D : Type 0} → Five (Node D) → Journals
all_kept nodes node = kept (at nodes node)

-- The list of an engine: the longest of those that its nodes keep.
abbrev pub list_of : {D C : Type 0} → Engine D C → List Command
list_of engine = longest (all_kept engine.cluster.nodes)

-- A state is that after the first commands of a list, as many as it has counted.
pub record IsBehind (state : Parts) (list : List Command) : Type 0 where
  pub few : count_of state ≤ length list
  pub stands : StandsFor state (fold_of (take (count_of state) list))

-- An engine in order: its cluster is, and its state is that after a front of its list. It asks nothing of disks but what the
-- cluster asks where they tell their content.
pub record IsInOrder {D C : Type 0} (tells : Type 0) (content : D → List ℕ) (may_leave : D → List ℕ → Type 0) (engine : Engine D C)
    : Type 0 where
  pub cluster : five.IsInOrder tells content may_leave engine.cluster
  pub behind : IsBehind engine.state (list_of engine)
