use Rattle.std.proofs.Common.{arith}
use Rattle.arc_turn.proofs.Moves.{serves}
use Rattle.arc_turn.proofs.steps.serve.Goals as goal

pub fetch_add-served-requires : goal.fetch_add-served-requires
fetch_add-served-requires g c =
    let slot = c.requires.slot in (
      c.requires.own.0,
      omega (arith, c.requires.own.1),
      serves g.T.Historied.history g.T.Historied.name _ _ _ _ slot.0 c.requires.turn.1 slot.1 slot.2 slot.3,
    )
