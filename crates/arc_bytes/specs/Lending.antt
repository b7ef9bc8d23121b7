-- What five values end as, where a `&mut` to one of them is returned.
use Rattle.std.specs.Prelude.{ℕ}
use Rattle.std.specs.Borrow.{Lends, Fml, RattleType, MutBor}
use Rattle.arc_bytes.specs.Five.{with}
use Rattle.arc_bytes.specs.declared.five.Five.{Five}
use Rattle.arc_bytes.specs.contracts.five.Five.{the_row}

-- Once the borrow ends, the node has the last value written through it, and the others are as they were.
abbrev pub LendsNode : (T : RattleType) → MutBor (Five T.Denot) → ℕ → MutBor T.Denot → Fml
LendsNode T five node lent = Lends (the_row T) T five lent (with five.now node)
