-- What an engine ends as, where a `&mut` to its courier is returned.
use Rattle.std.specs.Borrow.{Lends, Fml, RattleType, MutBor}
use Rattle.arc_engine.specs.declared.engine.Engine.{Engine}
use Rattle.arc_engine.specs.contracts.engine.Engine.{the_row}

-- Once the borrow ends, the engine has the last courier written through it, and all else is as it was.
abbrev pub LendsCourier : (D C : RattleType) → MutBor (Engine D.Denot C.Denot) → MutBor C.Denot → Fml
LendsCourier D C engine lent =
    Lends (the_row D C) C engine lent (λ courier. record engine.now { cluster = record engine.now.cluster { courier = courier } })
