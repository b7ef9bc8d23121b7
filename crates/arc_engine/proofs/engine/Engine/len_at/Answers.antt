use Rattle.std.proofs.Common.{sym, ◌∙◌}
use Rattle.arc_bytes.specs.Five.{at}
use Rattle.arc_node.specs.Node.{kept}
use Rattle.arc_voting.proofs.Uses.{applied_length}
use Rattle.arc_engine.proofs.engine.Engine.len_at.Goals as goal

pub returns : goal.returns
returns g c =
    rw c.node.ensures at c.applied_len.ensures
    ∙ sym (applied_length (kept (at c.args.self.now.cluster.nodes c.args.node)))
