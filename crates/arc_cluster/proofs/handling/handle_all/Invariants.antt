use Rattle.std.proofs.Common.{take}
use Rattle.arc_node.specs.Node.{HasVotesInPlace, IsInOrder, IsSameNode, disk_in}
use Rattle.arc_cluster.specs.Moments.{LeavesFronts}
use Rattle.arc_cluster.specs.Since.{Since}
use Rattle.arc_cluster.proofs.Going.{Going}
use Rattle.arc_cluster.proofs.handling.handle_all.Given as goal

-- the node is in order and the same, with its votes in place; it handled the messages so far; so it is at any moment; and its
-- disk is what it was
abbrev pub invariant-loop-message : goal.invariant-loop-message
invariant-loop-message g l =
    let disk = g.D.Disk in
    IsInOrder disk.tells disk.content disk.may_leave l.node
    × HasVotesInPlace l.node
    × IsSameNode l.initial.node l.node
    × Going disk.faults l.initial.node l.node (take l.message-index l.messages) l.answer
    × (disk.tells → LeavesFronts disk.moment disk.left_since l.initial.node l.node l.messages)
    × Since disk.faults disk.stops_in disk.is_tame (disk_in l.initial.node) (disk_in l.node)
