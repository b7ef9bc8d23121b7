use Rattle.std.proofs.Common.{arith, ap, ◌∙◌}
use Rattle.arc_turn.proofs.Moves.{joins, looks_idle}
use Rattle.arc_turn.proofs.steps.learn.Goals as goal

pub join_seat-requires : goal.join_seat-requires
join_seat-requires g c = (
  c.requires.own.0,
  c.requires.other.0,
  c.requires.other.1,
  omega (arith, c.requires.own.1),
  joins g.T.Historied.history g.T.Historied.name _ _ _ _ c.requires.idle.0 c.requires.idle.1,
)

pub load-compared-requires : goal.load-compared-requires
load-compared-requires g c = let both = c.join_seat.ensures in (
  both.0 ∙ c.requires.own.0,
  omega (arith, c.requires.own.1),
  looks_idle g.T.Historied.history g.T.Historied.name _ _ _ (ap (λ m. m.0.stage) both.2 ∙ c.requires.idle.0),
)
