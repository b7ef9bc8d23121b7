use Rattle.std.proofs.Common.{◌≡◌, ◌==◌, filter, map, take}
use Rattle.arc_plain.specs.Rules.{item_of}
use Rattle.arc_rules.proofs.table.items_in.Given as goal

-- those of the rules so far
abbrev pub invariant-loop-rule : goal.invariant-loop-rule
invariant-loop-rule l =
    l.items.items ≡ map (λ r. item_of r.rule r.spec) (filter (λ r. r.spec.panel.0 == l.panel.0) (take l.rule-index l.rules))
