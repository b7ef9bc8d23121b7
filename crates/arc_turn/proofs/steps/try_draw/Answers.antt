use Rattle.arc_turn.proofs.Moves.{draws}
use Rattle.std.proofs.Common.{arith}
use Rattle.arc_turn.proofs.steps.try_draw.Goals as goal

pub compare_exchange-requires : goal.compare_exchange-requires
compare_exchange-requires g c = (
  c.requires.own.0,
  omega (arith, c.requires.own.1),
  draws g.T.Historied.history g.T.Historied.name _ _ _ _ c.requires.idle.0 c.requires.idle.1,
)
