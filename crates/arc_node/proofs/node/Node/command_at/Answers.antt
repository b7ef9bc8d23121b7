-- The commands of a list within its limits are valid.
use Rattle.arc_node.specs.Node.{kept, slots_in}
use Rattle.arc_node.proofs.Telling.{lent_valid}
use Rattle.arc_node.proofs.node.Node.command_at.Goals as goal

pub returns-clause-valid : goal.returns-clause-valid
returns-clause-valid g c = λ limits.
    let node = c.args.self.now in
    lent_valid (slots_in node) (kept node) limits.within c.args.slot c.applied_at.result c.applied_at.ensures
