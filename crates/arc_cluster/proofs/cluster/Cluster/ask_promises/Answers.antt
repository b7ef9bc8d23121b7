use Rattle.std.proofs.Common.{true}
use Rattle.arc_data.specs.declared.message.Message.TheVariants.{Prepare}
use Rattle.arc_cluster.proofs.Bounds.{gives_sent}
use Rattle.arc_cluster.proofs.cluster.Cluster.ask_promises.Goals as goal

pub returns-clause-bounds : goal.returns-clause-bounds
returns-clause-bounds g c =
    let work = c.args.work.now in
    gives_sent c.args.self.now.nodes c.send-asked.new.self.nodes work true (Prepare work.slot c.args.ballot) c.send-asked.ensures.grown
