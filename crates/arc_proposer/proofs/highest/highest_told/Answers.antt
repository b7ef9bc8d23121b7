-- Node by node, from the last one.
use Rattle.std.proofs.Common.{refl, [], ◌∷◌}
use Rattle.arc_proposer.proofs.highest.highest_told.Goals as goal

pub returns : goal.returns
returns c =
    let five = c.args.promises.now in
    let from_4 = c.from_node-from_4.ensures [] refl in
    let from_3 = c.from_node-from_3.ensures (five.d4 ∷ []) from_4 in
    let from_2 = c.from_node-from_2.ensures (five.d3 ∷ five.d4 ∷ []) from_3 in
    let from_1 = c.from_node-from_1.ensures (five.d2 ∷ five.d3 ∷ five.d4 ∷ []) from_2 in
    c.from_node.ensures (five.d1 ∷ five.d2 ∷ five.d3 ∷ five.d4 ∷ []) from_1
