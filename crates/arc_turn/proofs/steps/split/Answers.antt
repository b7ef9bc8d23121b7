use Rattle.std.proofs.Common.{arith}
use Rattle.arc_turn.proofs.Moves.{splits}
use Rattle.arc_turn.proofs.steps.split.Goals as goal

pub split_seat-requires : goal.split_seat-requires
split_seat-requires g c = (
  c.requires.own.0,
  omega (arith, c.requires.own.1),
  splits g.T.Historied.history g.T.Historied.name _ _ c.requires.idle,
)
