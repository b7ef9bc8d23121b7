-- What follows where kept rules stand for those of a plain state.
use Rattle.std.proofs.Common.{◌≡◌, ℕ, ◌==◌, Bool, length, find, ap, ◌∙◌}
use Rattle.std.specs.List.{list_any, filter_map}
use Rattle.std.specs.Option.{option_map}
use Rattle.std.proofs.lemmas.List.{length-map}
use Rattle.arc_ids.specs.declared.named_id.ControlId.{ControlId}
use Rattle.arc_ids.specs.declared.named_id.RuleId.{RuleId}
use Rattle.arc_data.specs.declared.batch.Batch.{Batch}
use Rattle.arc_data.specs.declared.rule.RuleSpec.{RuleSpec}
use Rattle.arc_plain.specs.Rules.{PlainRules, forbidding, has_rule}
use Rattle.arc_rules.specs.Kept.{forbids_kept}
use Rattle.arc_rules.specs.declared.rules.Rules.{Rules}
use Rattle.arc_rules.specs.Standing.{StandsFor, kept_of}
use Rattle.arc_plain.proofs.Lists.{filter_map-map, found-map, list_any-map}

-- the kept rules forbid what those of the plain state forbid
pub forbidding_stands : (kept : Rules) (plain : PlainRules) (batch : Batch) (on : ControlId → Bool) (now : ℕ) →
    StandsFor kept plain → filter_map (forbids_kept batch on now) kept.rules ≡ forbidding plain batch on now
forbidding_stands kept plain batch on now stands =
    ap (filter_map (forbids_kept batch on now)) stands.rules
    ∙ filter_map-map (forbids_kept batch on now) (kept_of plain.changes) plain.rules

-- the same rules are there
pub has_stands : (kept : Rules) (plain : PlainRules) (rule : RuleId) →
    StandsFor kept plain → list_any (λ r. r.rule.0 == rule.0) kept.rules ≡ has_rule plain rule
has_stands kept plain rule stands =
    ap (list_any (λ r. r.rule.0 == rule.0)) stands.rules
    ∙ list_any-map (λ r. r.rule.0 == rule.0) (kept_of plain.changes) plain.rules

-- as many rules
pub length_stands : (kept : Rules) (plain : PlainRules) → StandsFor kept plain → length kept.rules ≡ length plain.rules
length_stands kept plain stands =
    ap length stands.rules ∙ length-map plain.rules (kept_of plain.changes)

-- a test of what rules are made of finds the same rule
pub found_stands : (kept : Rules) (plain : PlainRules) (test : RuleId → RuleSpec → Bool) → StandsFor kept plain →
    option_map (λ r. r.rule) (find (λ r. test r.rule r.spec) kept.rules)
    ≡ option_map (λ r. r.rule) (find (λ r. test r.rule r.spec) plain.rules)
found_stands kept plain test stands =
    ap (λ l. option_map (λ r. r.rule) (find (λ r. test r.rule r.spec) l)) stands.rules
    ∙ found-map (λ r. r.rule) (λ r. test r.rule r.spec) (kept_of plain.changes) plain.rules
