use Rattle.arc_cluster.specs.Adopting.{AreThere, NoneFailed, WereRead}
use Rattle.arc_cluster.proofs.loading.find_missing.Given as goal

-- the disks of the nodes so far are there, and all five were only read, and none failed
abbrev pub invariant-loop-node : goal.invariant-loop-node
invariant-loop-node g l =
    let disk = g.D.Disk in
    (disk.tells → AreThere disk.content l.initial.disks l.node)
    × WereRead disk.tells disk.content disk.may_leave disk.faults disk.moment disk.stops_in disk.is_tame disk.left_since
    l.initial.disks l.disks
    × NoneFailed disk.faults l.initial.disks l.disks
