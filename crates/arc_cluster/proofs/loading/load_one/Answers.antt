use Rattle.arc_cluster.proofs.Openings.{loaded_from}
use Rattle.arc_cluster.proofs.loading.load_one.Goals as goal

pub returns-in-Ok-clause-loaded : goal.returns-in-Ok-clause-loaded
returns-in-Ok-clause-loaded g c =
    let ok = c.in-Ok.ensures in
    loaded_from g.D.Disk c.args.disk c.in-Ok.n c.args.node ok.in_order ok.asleep ok.number ok.calls.0.count.1 ok.records ok.same
