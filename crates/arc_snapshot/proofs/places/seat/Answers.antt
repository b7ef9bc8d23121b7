use Rattle.std.proofs.Common.{rules, ◌≡◌, ◌+◌, length, ap, ◌∙◌, le_trans}
use Rattle.arc_snapshot.specs.Rule.{newcomer}
use Rattle.arc_snapshot.proofs.places.seat.Goals as goal

pub loop-made-preserved : goal.loop-made-preserved
loop-made-preserved g c =
    let before = c.loop-made.invariant in
    let sides = c.args.side.now.sides in
    let new : c.in-Ok.reader ≡ newcomer sides = c.in-Ok.ensures.reader ∙ ap (λ s. newcomer s.sides) before.0 in
    let longer : length c.keep.new.reads.items ≡ c.loop-made.made + 1 = search rules in
    (c.reader.ensures.side ∙ before.0, le_trans before.1 c.reader.ensures.later, longer, c.keep.ensures.all sides new before.3)
