use Rattle.arc_acceptor.proofs.Outcomes.{one_turn}
use Rattle.arc_acceptor.proofs.laws.each_message_has_one_turn.Goals as goal

pub returns : goal.returns
returns c = one_turn
