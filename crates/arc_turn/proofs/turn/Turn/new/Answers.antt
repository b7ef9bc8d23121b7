use Rattle.std.proofs.Common.{rules, ◌≡◌, [], ◌∷◌, List, Option, Some, sym, subst}
use Rattle.atomic_table.specs.Table.{opening}
use Rattle.arc_turn.specs.Rule.{IsKept}
use Rattle.arc_turn.specs.Steps.{newcomer}
use Rattle.arc_turn.proofs.Moves.{starts}
use Rattle.arc_turn.proofs.turn.Turn.new.Goals as goal

pub new-requires : goal.new-requires
new-requires g c =
    let T = g.row.T.Denot in
    let history = g.T.Historied.history in
    let name = g.T.Historied.name in
    let size = c.length.ensures in
    let items : c.push.new.self.items ≡ Some c.args.value ∷ [] = search rules in
    subst (λ (s : List (Option T) × T). IsKept history name (opening (0 ∷ 0 ∷ c.length.result ∷ []) s.0 (newcomer (history s.1) (name s.1))))
    (λ i. (sym items i, sym c.of-first.ensures i)) (starts history name c.args.value c.length.result size)
