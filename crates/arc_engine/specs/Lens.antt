-- How long the lists of nodes are that are up.
use Rattle.std.specs.Prelude.{ℕ, ◌≡◌, ◌<◌, Option, Some, None, List, length, if◌then◌else◌}
use Rattle.std.specs.List.{slice_get}
use Rattle.arc_bytes.specs.Five.{at}
use Rattle.arc_data.specs.Entries.{closed_len}
use Rattle.arc_node.specs.Node.{is_up, kept}
use Rattle.arc_node.specs.declared.node.Node.{Node}
use Rattle.arc_engine.specs.declared.engine.Engine.{Engine}

-- The closed length of a node, where it is up.
abbrev pub len_of : {D : Type 0} → Node D → Option ℕ
len_of node = if is_up node then Some (closed_len (kept node)) else None

-- Five of them, of one node after another.
pub record AreLens {D C : Type 0} (engine : Engine D C) (lens : List (Option ℕ)) : Type 0 where
  pub five : length lens ≡ 5
  pub each : (node : ℕ) → node < 5 → slice_get lens node ≡ Some (len_of (at engine.cluster.nodes node))
