-- Rules as they are kept.
use Rattle.std.specs.Prelude.{ℕ, ◌≤◌, List, length, Bool, All, Option, Some, IfSome, if◌then◌else◌, ◌==◌, not}
use Rattle.std.specs.List.{list_any}
use Rattle.arc_ids.specs.declared.named_id.ControlId.{ControlId}
use Rattle.arc_ids.specs.declared.named_id.RuleId.{RuleId}
use Rattle.arc_data.specs.declared.batch.Batch.{Batch}
use Rattle.arc_data.specs.declared.command.TheConstants.{MAX_MS}
use Rattle.arc_data.specs.declared.rule.Forbidden.{Forbidden}
use Rattle.arc_plain.specs.Rules.{forbids, is_among, watched_by, most_rules, renamed}
use Rattle.arc_rules.specs.declared.kept.Kept.{Kept}

-- the rules in order of creation, and how many of their identifiers were drawn
pub record KeptRules : Type 0 where
  pub rules : List Kept
  pub drawn : ℕ

-- a rule as it is kept after further changes at a list time
abbrev pub noted : List ControlId → ℕ → Kept → Kept
noted changed now rule =
    record rule { last = if list_any (is_among (watched_by rule.spec)) changed then Some now else rule.last }

-- a rule with another name and another wait
abbrev pub renamed_kept : List ℕ → ℕ → Kept → Kept
renamed_kept name wait rule = record rule { spec = renamed name wait rule.spec }

-- the time of a rule's last change is a time
abbrev pub IsTimely : Kept → Type 0
IsTimely rule = IfSome rule.last (λ time. time ≤ MAX_MS)

abbrev pub AreTimely : List Kept → Type 0
AreTimely rules = All IsTimely rules

-- no more rules than are kept at most, each with a time of its last change
pub record AreKept (rules : List Kept) : Type 0 where
  pub timely : AreTimely rules
  pub within_limit : length rules ≤ most_rules

-- whether a rule isn't there
unfoldable pub is_unknown : List Kept → RuleId → Bool
is_unknown rules rule = not (list_any (λ k. k.rule.0 == rule.0) rules)

-- whether a kept rule forbids a batch, and why
abbrev pub forbids_kept : Batch → (ControlId → Bool) → ℕ → Kept → Option Forbidden
forbids_kept batch on now rule = forbids batch on now rule.rule rule.spec rule.last
