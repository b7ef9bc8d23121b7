use Rattle.std.proofs.Common.{arith, refl}
use Rattle.arc_plain.specs.State.{fresh}
use Rattle.arc_plain.proofs.Orderly.{orderly_fresh}
use Rattle.arc_state.proofs.state.fresh_parts.Goals as goal

pub returns-clause-kept : goal.returns-clause-kept
returns-clause-kept c = record {
  plain = fresh;
  stands = record {
    time = refl;
    count = refl;
    panels = c.in_ok-fresh.ensures;
    rules = c.in_ok-fresh-2.ensures;
    resources = c.in_ok-fresh-3.ensures;
    shifts = c.in_ok-fresh-4.ensures;
    practices = c.in_ok-fresh-5.ensures;
    shifts_drawn = refl;
  };
  orderly = orderly_fresh;
  in_time = omega arith;
}
