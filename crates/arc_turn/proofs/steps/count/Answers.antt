use Rattle.std.proofs.Common.{arith}
use Rattle.arc_turn.proofs.Moves.{counts}
use Rattle.arc_turn.proofs.steps.count.Goals as goal

pub swap-requires : goal.swap-requires
swap-requires g c =
    let slot = c.requires.slot in (
      c.requires.own.0,
      omega (arith, c.requires.own.1),
      counts g.T.Historied.history g.T.Historied.name _ _ _ _ _ slot.0 c.requires.turn.1 slot.1 slot.2 slot.3,
    )
