use Rattle.std.proofs.Common.{◌≡◌, ◌++◌, map, take, drop}
use Rattle.arc_rules.specs.Kept.{noted}
use Rattle.arc_rules.proofs.kept.note_all.Given as goal

-- the rules so far are noted
abbrev pub invariant-loop-rule : goal.invariant-loop-rule
invariant-loop-rule l =
    l.rule-items ≡ map (noted l.changed l.now) (take l.rule-index l.initial.rule-items) ++ drop l.rule-index l.initial.rule-items
