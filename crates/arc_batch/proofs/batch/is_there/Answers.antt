use Rattle.std.proofs.Common.{◌∙◌}
use Rattle.arc_batch.proofs.batch.is_there.Goals as goal

pub returns : goal.returns
returns c = c.has.ensures ∙ c.states.ensures.are_there c.args.control
