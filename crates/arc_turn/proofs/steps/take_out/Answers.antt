use Rattle.std.proofs.Common.{Some, ◌∷◌, ap, sym, ◌∙◌}
use Rattle.atomic_table.specs.Table.{rest}
use Rattle.arc_turn.proofs.steps.take_out.Goals as goal

pub exchange-requires : goal.exchange-requires
exchange-requires g c = (c.requires.own, (_, c.requires.slot.1 ∙ ap (λ cs. (0, Some c.requires.slot.0) ∷ rest cs) (sym c.requires.slot.1)))
