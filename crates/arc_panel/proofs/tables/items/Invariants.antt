use Rattle.std.proofs.Common.{◌≡◌, filter, map, take}
use Rattle.arc_panel.specs.Kept.{in_scope, item_with}
use Rattle.arc_panel.proofs.tables.items.Given as goal

-- those of the controls so far
abbrev pub invariant-loop-control : goal.invariant-loop-control
invariant-loop-control l =
    l.items.items ≡ map (item_with l.states) (filter (λ c. in_scope l.panel c.panel) (take l.control-index l.controls))
