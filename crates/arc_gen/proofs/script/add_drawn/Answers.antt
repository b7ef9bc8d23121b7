use Rattle.std.proofs.Common.{◌∙◌, arith}
use Rattle.arc_gen.proofs.Pieces.{next_is_drawn, none_drawn, one_more, size_is_first}
use Rattle.arc_gen.proofs.script.add_drawn.Goals as goal

pub loop-place-init : goal.loop-place-init
loop-place-init c = record {
  within = omega arith;
  small = omega arith;
  number_is = size_is_first c.args.size;
  so_far = none_drawn c.args.size c.args.text.now.items;
}

pub loop-place-preserved : goal.loop-place-preserved
loop-place-preserved c =
    let number_is = c.next_drawn-number.ensures.next ∙ next_is_drawn c.args.size c.loop-place.place c.loop-place.number c.loop-place.invariant.number_is in
    record {
      within = omega arith;
      small = c.next_drawn-number.ensures.within;
      number_is = number_is;
      so_far = one_more c.args.size c.loop-place.place c.next_drawn-number.result c.args.text.now.items c.loop-place.text.items
          c.add_line.new.text.items number_is c.loop-place.invariant.so_far c.in_ok-add_line.ensures;
    }
