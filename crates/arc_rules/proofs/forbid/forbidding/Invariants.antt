use Rattle.std.proofs.Common.{◌≡◌, take}
use Rattle.std.specs.List.{filter_map}
use Rattle.arc_data.specs.States.{is_on}
use Rattle.arc_rules.specs.Kept.{forbids_kept}
use Rattle.arc_rules.proofs.forbid.forbidding.Given as goal

-- those of the rules so far
abbrev pub invariant-loop-rule : goal.invariant-loop-rule
invariant-loop-rule l =
    l.found.items ≡ filter_map (forbids_kept l.batch (is_on l.before) l.now) (take l.rule-index l.rules)
