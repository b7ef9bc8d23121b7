use Rattle.std.proofs.Common.{◌≡◌, length, map}
use Rattle.arc_json.specs.Operations.{beside}
use Rattle.arc_json.proofs.operation.beside.Given as goal

-- the name isn't in the rows so far, so that the rest decides
abbrev pub invariant-loop-rest : goal.invariant-loop-rest
invariant-loop-rest l = beside (map (λ row. (row.0.now, row.1)) l.rest) l.name ≡ beside (map (λ row. (row.0.now, row.1)) l.table) l.name

abbrev pub decreases-loop-rest : goal.decreases-loop-rest
decreases-loop-rest l = length l.rest
