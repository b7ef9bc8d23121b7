use Rattle.std.proofs.Common.{◌≤◌}
use Rattle.arc_node.specs.Node.{HasVotesInPlace, IsInOrder, IsSameNode, disk_in}
use Rattle.arc_drill.specs.Since.{Since}
use Rattle.arc_drill.specs.Steps.{IsFit}
use Rattle.arc_drill.proofs.Reporting.{Reports}
use Rattle.arc_drill.proofs.report.do_steps.Given as goal

-- the node is in order, fit and the same, with its votes in place, so many steps are done and told, and no count of faults has fallen
abbrev pub invariant-loop-step : goal.invariant-loop-step
invariant-loop-step g l =
    let disk = g.D.Disk in
    let begun = disk_in l.initial.node in
    IsInOrder disk.tells disk.content disk.may_leave l.node
    × IsFit l.node l.state
    × Since disk.faults disk.stops_in disk.is_tame begun (disk_in l.node)
    × Reports disk.tells disk.faults begun l.steps l.step-index l.node (g.K.Sink.taken l.initial.out) (g.K.Sink.taken l.out)
    × (g.K.Sink.faults l.initial.out ≤ g.K.Sink.faults l.out)
    × IsSameNode l.initial.node l.node
    × HasVotesInPlace l.node
