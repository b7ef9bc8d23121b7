use Rattle.std.proofs.Common.{ap, arith}
use Rattle.std.specs.Ordering.{nat_cmp}
use Rattle.std.specs.Option.{is_some}
use Rattle.std.specs.FinMap.{get-empty}
use Rattle.arc_panel.proofs.panels.Panels.fresh.Goals as goal

pub invariant_of-result : goal.invariant_of-result
invariant_of-result c =
    rw (c.in_ok-push.ensures.items, c.new-panels.ensures.items, c.new.ensures.items, c.new-2.ensures) (record {
      panels_within = omega arith;
      controls_within = omega arith;
      drawn_before = λ k d within. absurd (omega arith);
      have_states = λ q. ap is_some (get-empty nat_cmp q.0);
    })
