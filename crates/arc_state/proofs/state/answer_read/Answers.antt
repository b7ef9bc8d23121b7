use Rattle.arc_state.proofs.Recounts.{answered_ok, timely}
use Rattle.arc_state.proofs.state.answer_read.Goals as goal

pub answer-requires : goal.answer-requires
answer-requires c = timely c.args.parts.now c.requires

pub returns : goal.returns
returns c = answered_ok c.answer.result c.args.op.now c.args.parts.now c.answer.ensures
