-- A pass, from its fields.
use Rattle.std.specs.Prelude.{◌≡◌, ◌⊎◌, []}
use Rattle.arc_turn.specs.declared.pass.Pass.TheInside.{Inside}
use Rattle.arc_turn.specs.Known.{Known, known_of, IsSeated}

abbrev pub known : Inside → Known
known p = known_of p.badge

-- the pass has its seat, or the seat is with the value that it took
abbrev pub HasSeat : Inside → Type 0
HasSeat p = IsSeated p.badge ⊎ (p.badge.views ≡ [])
