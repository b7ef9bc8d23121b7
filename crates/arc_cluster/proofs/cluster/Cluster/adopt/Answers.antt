use Rattle.arc_cluster.proofs.Adoptions.{ends_by_no_test}
use Rattle.arc_cluster.proofs.cluster.Cluster.adopt.Goals as goal

pub returns-in-Err-clause-complete : goal.returns-in-Err-clause-complete
returns-in-Err-clause-complete g c = λ told pass test.
    let disk = g.D.Disk in
    ends_by_no_test disk.tells disk.content disk.faults c.args.disks c.in-Err.end.0 c.in-Err.end.1 told pass c.in-Err.ensures.end test
