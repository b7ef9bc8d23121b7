-- Safety rules: what a rule's value is, when a rule forbids a batch, and what the operations on rules do.
use Rattle.std.specs.Prelude.{ℕ, ◌+◌, ◌==◌, ◌&&◌, ◌||◌, ◌++◌, List, [], ◌∷◌, length, map, filter, find, drop, reverse, count_by, Bool, not, nat_lt, nat_le, Option, Some, None, Result, Ok, is_some, unwrap_or, if◌then◌else◌}
use Rattle.std.specs.Bool.{beq}
use Rattle.std.specs.List.{list_all, list_any, filter_map}
use Rattle.std.specs.Option.{option_map, option_or}
use Rattle.std.specs.Str.{bytes_eq}
use Rattle.arc_ids.specs.declared.named_id.PanelId.{PanelId}
use Rattle.arc_ids.specs.declared.named_id.ControlId.{ControlId}
use Rattle.arc_ids.specs.declared.named_id.RuleId.{RuleId}
use Rattle.arc_data.specs.declared.batch.Batch.{Batch}
use Rattle.arc_data.specs.declared.batch.Entry.{Entry}
use Rattle.arc_data.specs.declared.reply.Named.TheVariants as named
use Rattle.arc_data.specs.declared.reply.Refusal.{Refusal}
use Rattle.arc_data.specs.declared.reply.Refusal.TheVariants.{NotFound, Limit, NameTaken}
use Rattle.arc_data.specs.declared.rule.Cause.{Cause}
use Rattle.arc_data.specs.declared.rule.Cause.TheVariants.{AssertFalse, GateClosed, Waiting}
use Rattle.arc_data.specs.declared.rule.Forbidden.{Forbidden}
use Rattle.arc_data.specs.declared.rule.RuleConfig.{RuleConfig}
use Rattle.arc_data.specs.declared.rule.RuleItem.{RuleItem}
use Rattle.arc_data.specs.declared.rule.RuleKind.{RuleKind}
use Rattle.arc_data.specs.declared.rule.RuleKind.TheVariants.{And, Or, AtLeast}
use Rattle.arc_data.specs.declared.rule.RuleSpec.{RuleSpec}
use Rattle.arc_plain.specs.Rows.{◌>>=◌, require, refuse_found}

-- a rule, what it is made of, and how many changes had been accepted when it was made
pub record PlainRule : Type 0 where
  pub rule : RuleId
  pub spec : RuleSpec
  pub made_after : ℕ

-- an accepted change of a control, and its list time
pub record Change : Type 0 where
  pub time : ℕ
  pub control : ControlId

-- the rules in order of creation, how many of their identifiers were drawn, and all accepted changes in order
pub record PlainRules : Type 0 where
  pub rules : List PlainRule
  pub rules_drawn : ℕ
  pub changes : List Change

-- how a cluster starts
abbrev pub fresh_rules : PlainRules
fresh_rules = record { rules = []; rules_drawn = 0; changes = [] }

-- the most rules that are kept
abbrev pub most_rules : ℕ
most_rules = 64

-- ---- the value of a rule

-- whether a control is among these
abbrev pub is_among : List ControlId → ControlId → Bool
is_among controls control = list_any (λ c. c.0 == control.0) controls

-- whether as many controls are On as the kind asks for
abbrev pub is_met : RuleKind → ℕ → List ControlId → (ControlId → Bool) → Bool
is_met And threshold controls on = list_all on controls
is_met Or threshold controls on = list_any on controls
is_met AtLeast threshold controls on = nat_le threshold (count_by on controls)

-- the value of a rule over its asserted or gating controls, where `on` tells which controls are On
abbrev pub value_of : RuleConfig → List ControlId → (ControlId → Bool) → Bool
value_of config controls on =
    if config.inverted then not (is_met config.kind config.threshold controls on)
    else is_met config.kind config.threshold controls on

-- ---- what a batch changes

-- which controls are On after all entries of a batch
abbrev pub after : List Entry → (ControlId → Bool) → ControlId → Bool
after entries on control =
    unwrap_or (option_map (λ e. e.on) (find (λ e. e.control.0 == control.0) entries)) (on control)

-- the controls of a batch whose new state differs from their present one
abbrev pub changed_by : List Entry → (ControlId → Bool) → List ControlId
changed_by entries on = filter (λ c. not (beq (after entries on c) (on c))) (map (λ e. e.control) entries)

-- ---- when a rule forbids a batch

-- a gate has targets
abbrev pub is_gate : RuleSpec → Bool
is_gate spec = is_some spec.targets

-- the controls whose change a rule watches: the asserted controls of an assertion, the targets of a gate
abbrev pub watched_by : RuleSpec → List ControlId
watched_by spec = unwrap_or spec.targets spec.controls

-- the time of the last accepted change of a watched control since the rule was made
abbrev pub last_change : List Change → PlainRule → Option ℕ
last_change changes rule =
    option_map (λ c. c.time)
    (find (λ c. is_among (watched_by rule.spec) c.control) (reverse (drop rule.made_after changes)))

-- an assertion has to be true after the batch, a gate before it
abbrev pub value_cause : RuleSpec → (ControlId → Bool) → (ControlId → Bool) → Option Cause
value_cause spec before afterwards =
    if is_gate spec then (if value_of spec.config spec.controls before then None else Some GateClosed)
    else if value_of spec.config spec.controls afterwards then None else Some AssertFalse

-- further changes wait for some time after the last one
abbrev pub wait_cause : ℕ → ℕ → Option ℕ → Option Cause
wait_cause wait now None = None
wait_cause wait now (Some last) = if nat_lt now (last + wait) then Some (Waiting (last + wait)) else None

-- why a rule forbids a batch that it watches: by its value, or else by its wait
abbrev pub cause_of : RuleSpec → Option ℕ → Batch → (ControlId → Bool) → ℕ → Option Cause
cause_of spec last batch on now = option_or (value_cause spec on (after batch.entries on)) (wait_cause spec.wait_ms now last)

-- whether a batch overrides a rule
abbrev pub overrides : Batch → RuleId → Bool
overrides batch rule = list_any (λ r. r.0 == rule.0) batch.overrides

-- whether a batch changes a control that a rule watches
abbrev pub meets : Batch → (ControlId → Bool) → RuleSpec → Bool
meets batch on spec = list_any (is_among (watched_by spec)) (changed_by batch.entries on)

-- Where a batch doesn't override a rule and changes a control that it watches, the rule may forbid it: at this list
-- time, with this time of its last change.
abbrev pub forbids : Batch → (ControlId → Bool) → ℕ → RuleId → RuleSpec → Option ℕ → Option Forbidden
forbids batch on now rule spec last =
    if overrides batch rule then None
    else if meets batch on spec then option_map (λ cause. record { rule = rule; cause = cause }) (cause_of spec last batch on now)
    else None

-- all rules that forbid a batch at a list time, with their causes, in order of creation
abbrev pub forbidding : PlainRules → Batch → (ControlId → Bool) → ℕ → List Forbidden
forbidding plain batch on now =
    filter_map (λ r. forbids batch on now r.rule r.spec (last_change plain.changes r)) plain.rules

-- ---- the operations on rules

-- whether there is a rule
abbrev pub has_rule : PlainRules → RuleId → Bool
has_rule plain rule = list_any (λ r. r.rule.0 == rule.0) plain.rules

-- whether a rule names a control, as an asserted, a gating or a target control
abbrev pub names_control : RuleSpec → ControlId → Bool
names_control spec control = is_among spec.controls control || is_among (unwrap_or spec.targets []) control

-- the first rule, in order of creation, that names a control
abbrev pub user_of : PlainRules → ControlId → Option RuleId
user_of plain control = option_map (λ r. r.rule) (find (λ r. names_control r.spec control) plain.rules)

-- a rule as replies show it
abbrev pub item_of : RuleId → RuleSpec → RuleItem
item_of rule spec = record { name = spec.name; rule = rule; gating = is_gate spec; wait_ms = spec.wait_ms }

-- the rules of a panel, in order of creation
abbrev pub rules_in : PlainRules → PanelId → List RuleItem
rules_in plain panel = map (λ r. item_of r.rule r.spec) (filter (λ r. r.spec.panel.0 == panel.0) plain.rules)

-- whether a rule of that panel has that name
abbrev pub holds_name : PanelId → List ℕ → RuleSpec → Bool
holds_name panel name spec = (spec.panel.0 == panel.0) && bytes_eq spec.name name

-- the identifier of the next rule: they are drawn from 1 on
abbrev pub next_rule : PlainRules → RuleId
next_rule plain = record { 0 = plain.rules_drawn + 1 }

-- with one rule more, made after the changes so far
abbrev pub with_rule : PlainRules → RuleSpec → PlainRules
with_rule plain spec = record plain {
  rules = plain.rules ++ record { rule = next_rule plain; spec = spec; made_after = length plain.changes } ∷ [];
  rules_drawn = plain.rules_drawn + 1;
}

-- A new rule has the next identifier. No two rules of one panel have one name.
unfoldable pub add_rule : PlainRules → RuleSpec → Result (RuleId × PlainRules) Refusal
add_rule plain spec = do
  room ← require (nat_lt (length plain.rules) most_rules) (Limit (length plain.rules))
  free ← refuse_found (λ holder. NameTaken (named.Rule holder.rule))
      (find (λ r. holds_name spec.panel spec.name r.spec) plain.rules)
  Ok (next_rule plain, with_rule plain spec)

-- the rule of that kind with this identifier, or that it isn't there
abbrev pub found_rule : RuleId → Option PlainRule → Result PlainRule Refusal
found_rule rule None = Result.Err (NotFound (named.Rule rule))
found_rule rule (Some there) = Ok there

-- a rule with another name and another wait
abbrev pub renamed : List ℕ → ℕ → RuleSpec → RuleSpec
renamed name wait spec = record spec { name = name; wait_ms = wait }

-- a list with its first item that passes changed
abbrev pub change_first : {A : Type 0} → (A → Bool) → (A → A) → List A → List A
change_first passes change [] = []
change_first passes change (x ∷ xs) = if passes x then change x ∷ xs else x ∷ change_first passes change xs

-- whether it is the rule with this identifier, and of this kind
abbrev pub is_rule : Bool → RuleId → PlainRule → Bool
is_rule gating rule r = (r.rule.0 == rule.0) && beq (is_gate r.spec) gating

-- with another name and another wait of this rule
abbrev pub with_renamed : PlainRules → Bool → RuleId → List ℕ → ℕ → PlainRules
with_renamed plain gating rule name wait =
    record plain { rules = change_first (is_rule gating rule) (λ r. record r { spec = renamed name wait r.spec }) plain.rules }

-- A rule is updated as the kind that it is. It goes on from the changes that it has seen.
unfoldable pub update_rule : PlainRules → Bool → RuleId → List ℕ → ℕ → Result (Unit {0} × PlainRules) Refusal
update_rule plain gating rule name wait = do
  there ← found_rule rule (find (is_rule gating rule) plain.rules)
  free ← refuse_found (λ holder. NameTaken (named.Rule holder.rule))
      (find (λ r. not (r.rule.0 == rule.0) && holds_name there.spec.panel name r.spec) plain.rules)
  Ok (tt, with_renamed plain gating rule name wait)

-- without a rule
abbrev pub without_rule : PlainRules → RuleId → PlainRules
without_rule plain rule = record plain { rules = filter (λ r. not (r.rule.0 == rule.0)) plain.rules }

-- a rule that is removed forbids nothing any more
unfoldable pub remove_rule : PlainRules → RuleId → Result (Unit {0} × PlainRules) Refusal
remove_rule plain rule = do
  known ← require (has_rule plain rule) (NotFound (named.Rule rule))
  Ok (tt, without_rule plain rule)

-- with further accepted changes, all at one list time
abbrev pub with_changes : PlainRules → List ControlId → ℕ → PlainRules
with_changes plain changed now =
    record plain { changes = plain.changes ++ map (λ c. record { time = now; control = c }) changed }
