-- What a cluster ends as, where a `&mut` to its courier is returned.
use Rattle.std.specs.Borrow.{Lends, Fml, RattleType, MutBor}
use Rattle.arc_cluster.specs.declared.cluster.Cluster.{Cluster}
use Rattle.arc_cluster.specs.contracts.cluster.Cluster.{the_row}

-- Once the borrow ends, the cluster has the last courier written through it, and all else is as it was.
abbrev pub LendsCourier : (D C : RattleType) → MutBor (Cluster D.Denot C.Denot) → MutBor C.Denot → Fml
LendsCourier D C cluster lent = Lends (the_row D C) C cluster lent (λ courier. record cluster.now { courier = courier })
