use Rattle.std.proofs.Common.{◌≡◌, ◌≤◌, ◌<◌, ℕ}
use Rattle.arc_bytes.specs.Five.{at}
use Rattle.arc_cluster.specs.Adopting.{AreAwake, MayAllStart}
use Rattle.arc_cluster.specs.Nodes.{AreInOrder}
use Rattle.arc_cluster.proofs.waking.wake_all.Given as goal

-- five nodes are in order of which those so far were started, and the others are as they were
abbrev pub invariant-loop-node : goal.invariant-loop-node
invariant-loop-node g l =
    let disk = g.D.Disk in
    AreInOrder disk.tells disk.content disk.may_leave l.nodes
    × AreAwake disk.faults l.initial.nodes l.nodes l.node
    × ((node : ℕ) → node < 5 → l.node ≤ node → at l.nodes node ≡ at l.initial.nodes node)
    × MayAllStart disk.tells disk.faults disk.moment disk.stops_in disk.is_tame disk.left_since l.initial.nodes l.nodes
