use Rattle.std.proofs.Common.{◌≡◌, ◌≤◌, ◌+◌, ◌-◌, length, take}
use Rattle.arc_bytes.specs.Five.{at}
use Rattle.arc_data.specs.Entries.{closed_len}
use Rattle.arc_engine.proofs.Onward.{AreGoingOn}
use Rattle.arc_node.specs.Node.{kept, slots_in}
use Rattle.arc_engine.proofs.attempting.attempt_all.Given as goal

-- how the attempts went on so far
abbrev pub invariant-loop-disturbed : goal.invariant-loop-disturbed
invariant-loop-disturbed g l =
    let disk = g.D.Disk in
    let courier = g.C.Courier in
    (l.disturbed ≤ 8) × (length l.tallies ≡ 8) × AreGoingOn disk.tells disk.content disk.may_leave disk.faults disk.stops_in disk.is_tame courier.troubles
    courier.is_silent courier.asked l.fn.cluster l.cluster l.node l.c (take l.disturbed l.tallies)

-- the attempts that may still be disturbed, and the slots that the endpoint may still close
abbrev pub decreases-loop-disturbed : goal.decreases-loop-disturbed
decreases-loop-disturbed g l =
    8 + slots_in (at l.cluster.nodes l.node) - (l.disturbed + closed_len (kept (at l.cluster.nodes l.node)))
