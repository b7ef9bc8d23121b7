use Rattle.std.proofs.Common.{◌≡◌, ◌<◌, ℕ, []}
use Rattle.arc_bytes.specs.Five.{at}
use Rattle.arc_cluster.specs.Adopting.{NoneFailed, WereRead}
use Rattle.arc_engine.proofs.starting.are_empty.Given as goal

-- the disks of the nodes so far are empty, and all five were only read, and none failed
abbrev pub invariant-loop-node : goal.invariant-loop-node
invariant-loop-node g l =
    let disk = g.D.Disk in
    (disk.tells → (n : ℕ) → n < l.node → disk.content (at l.initial.disks n) ≡ [])
    × WereRead disk.tells disk.content disk.may_leave disk.faults disk.moment disk.stops_in disk.is_tame disk.left_since
    l.initial.disks l.disks
    × NoneFailed disk.faults l.initial.disks l.disks
