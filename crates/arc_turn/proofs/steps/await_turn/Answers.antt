use Rattle.std.proofs.Common.{arith, ap, ◌∙◌}
use Rattle.arc_turn.proofs.Moves.{looks_waiting}
use Rattle.arc_turn.proofs.steps.await_turn.Goals as goal

pub load-serving-requires : goal.load-serving-requires
load-serving-requires g c = let same = c.loop.invariant in (
  same.0.0 ∙ c.requires.own.0,
  omega (arith, c.requires.own.1),
  looks_waiting g.T.Historied.history g.T.Historied.name _ _ _ _ (ap (λ m. m.0.stage) same.1 ∙ c.requires.waits),
)
