use Rattle.std.proofs.Common.{◌≡◌, ◌∙◌, ℕ, ap, arith, replicate, length-take, length-drop}
use Rattle.arc_disk.proofs.Filled.{filled_part}
use Rattle.arc_disk.proofs.history.fill_range.Goals as goal

pub returns : goal.returns
returns c =
    let made : c.fill.new.self ≡ replicate c.min-len.result c.args.fill =
    c.fill.ensures.after (λ y same. same) ∙ ap (λ n. replicate n c.args.fill) (grind (arith, length-take {A = ℕ}, length-drop {A = ℕ})) in
    filled_part c.args.fill c.args.at c.args.len c.min-start.result c.min-len.result _ c.args.content.now c.fill.new.self c.min-start.ensures c.min-len.ensures (omega arith) made
