use Rattle.std.proofs.Common.{◌≡◌, ◌≤◌, ◌<◌, ℕ}
use Rattle.arc_bytes.specs.Five.{at}
use Rattle.arc_node.specs.Node.{slots_in}
use Rattle.arc_cluster.proofs.waking.check_lengths.Given as goal

-- the lists of the nodes so far have the greatest length of the first
abbrev pub invariant-loop-node : goal.invariant-loop-node
invariant-loop-node g l =
    (l.first ≡ slots_in (at l.nodes 0)) × (1 ≤ l.node)
    × ((node : ℕ) → node < l.node → slots_in (at l.nodes node) ≡ slots_in (at l.nodes 0))
