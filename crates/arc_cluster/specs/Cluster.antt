-- A cluster, and when it is in order.
use Rattle.std.specs.Prelude.{ℕ, List}
use Rattle.arc_bytes.specs.Five.{at}
use Rattle.arc_node.specs.declared.node.Node.{Node}
use Rattle.arc_cluster.specs.declared.cluster.Cluster.{Cluster}
use Rattle.arc_cluster.specs.declared.held.Envelope.{Envelope}
use Rattle.arc_cluster.specs.Held.{AreHeld}
use Rattle.arc_cluster.specs.Nodes.{AreInOrder}

-- One of its nodes.
abbrev pub node_in : {D C : Type 0} → Cluster D C → ℕ → Node D
node_in cluster node = at cluster.nodes node

-- The messages that it holds, in order.
abbrev pub held_in : {D C : Type 0} → Cluster D C → List Envelope
held_in cluster = cluster.held.envelopes.items

-- A cluster in order: its nodes are, and what it holds may be held. It speaks of what nodes keep and of entries in doubt, and
-- of no disk's content; so it is asked over disks that tell nothing too.
pub record IsInOrder {D C : Type 0} (tells : Type 0) (content : D → List ℕ) (may_leave : D → List ℕ → Type 0)
    (cluster : Cluster D C) : Type 0 where
  pub nodes : AreInOrder tells content may_leave cluster.nodes
  pub held : AreHeld cluster.nodes (held_in cluster)
