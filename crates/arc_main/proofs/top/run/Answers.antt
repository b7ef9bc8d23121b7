use Rattle.std.proofs.Common.{rules, refl}
use Rattle.arc_drill.proofs.Disks.{since_same}
use Rattle.arc_main.proofs.Words.{no_status_2}
use Rattle.arc_main.proofs.top.run.Goals as goal

pub returns-then-not-is_drill-clause-quiet : goal.returns-then-not-is_drill-clause-quiet
returns-then-not-is_drill-clause-quiet g c =
    let disk = g.D.Disk in since_same disk.moment disk.faults disk.stops_in disk.is_tame c.args.disks.d0 c.args.disks.d0 refl

pub returns-in-Err-clause-quiet : goal.returns-in-Err-clause-quiet
returns-in-Err-clause-quiet g c =
    let disk = g.D.Disk in since_same disk.moment disk.faults disk.stops_in disk.is_tame c.args.disks.d0 c.args.disks.d0 refl

pub returns-clause-usage : goal.returns-clause-usage
returns-clause-usage g c =
    (λ two. absurd (no_status_2 _ c.drill-status.ensures.status two), λ other. absurd (other (c.is_drill.ensures.0 (search rules))))

pub returns-clause-no_task : goal.returns-clause-no_task
returns-clause-no_task g c two = absurd (no_status_2 _ c.drill-status.ensures.status two)
