-- What safety rules do in a list of commands.
use Rattle.std.specs.Prelude.{ℕ, ◌≡◌, ◌+◌, ◌==◌, max, Bool, true, false, find, List, [], ◌∷◌, take, slice_get, Option, Some, None}
use Rattle.std.specs.List.{list_all}
use Rattle.arc_data.specs.declared.batch.Batch.{Batch}
use Rattle.arc_data.specs.declared.command.Command.{Command}
use Rattle.arc_data.specs.declared.op.Op.{Op}
use Rattle.arc_data.specs.declared.op.Op.TheVariants.{UpdateRoutingControlState, UpdateRoutingControlStates}
use Rattle.arc_data.specs.declared.reply.Body.TheVariants.{Empty}
use Rattle.arc_data.specs.declared.reply.Refusal.TheVariants.{Forbidden as IsForbidden}
use Rattle.arc_data.specs.declared.reply.Reply.{Reply}
use Rattle.arc_data.specs.declared.reply.Reply.TheVariants.{Done, Refused}
use Rattle.arc_data.specs.declared.rule.Forbidden.{Forbidden}
use Rattle.arc_ids.specs.declared.named_id.RuleId.{RuleId}
use Rattle.arc_plain.specs.Cluster.{answer, fold_of, is_ahead}
use Rattle.arc_plain.specs.Panels.{has_control, on_of}
use Rattle.arc_plain.specs.Rules.{PlainRule, forbidding, has_rule, is_gate, overrides, value_of}
use Rattle.arc_plain.specs.State.{Plain}

-- the batch that an operation asks for
abbrev pub batch_of : Op → Option Batch
batch_of (UpdateRoutingControlState batch) = Some batch
batch_of (UpdateRoutingControlStates batch) = Some batch
batch_of other = None

-- The controls and the overrides of a batch are there.
pub record AreThere (plain : Plain) (batch : Batch) : Type 0 where
  pub controls : list_all (λ e. has_control plain.controls.panels e.control) batch.entries ≡ true
  pub overrides : list_all (has_rule plain.controls.rules) batch.overrides ≡ true

-- what a batch is answered that meets these rules: refused, and all of them named, or done where there are none
abbrev pub answer_by : List Forbidden → Reply
answer_by [] = Done Empty
answer_by (first ∷ others) = Refused (IsForbidden (first ∷ others))

-- A batch that reaches the rules is refused exactly where one that it doesn't override forbids it, and then all of them are
-- named: its token isn't ahead, and its controls and overrides are there.
abbrev pub MeetsRules : Plain → Command → Type 0
MeetsRules plain c =
    (batch : Batch) → batch_of c.op ≡ Some batch → is_ahead c.token plain.count ≡ false → AreThere plain batch →
    answer plain c ≡ answer_by (forbidding plain.controls.rules batch (on_of plain.controls.panels) (max plain.time c.at_ms))

-- the rule with this identifier
abbrev pub rule_of : Plain → RuleId → Option PlainRule
rule_of plain rule = find (λ r. r.rule.0 == rule.0) plain.controls.rules.rules

-- the value of a rule in a state
abbrev pub value_in : Plain → PlainRule → Bool
value_in plain rule = value_of rule.spec.config rule.spec.controls (on_of plain.controls.panels)

-- An assertion that holds before a command and not after it is overridden by the batch that the command is.
abbrev pub OverridesBroken : Plain → Plain → Command → Type 0
OverridesBroken before after c =
    (rule : RuleId) (was is : PlainRule) → rule_of before rule ≡ Some was → rule_of after rule ≡ Some is →
    is_gate was.spec ≡ false → value_in before was ≡ true → value_in after is ≡ false →
    (batch : Batch) × (batch_of c.op ≡ Some batch) × (overrides batch rule ≡ true)

-- Each command of a list meets the rules in the state that the commands before it made.
pub record ObeysRules (list : List Command) : Type 0 where
  pub meets : (s : ℕ) (c : Command) → slice_get list s ≡ Some c → MeetsRules (fold_of (take s list)) c
  pub overrides : (s : ℕ) (c : Command) → slice_get list s ≡ Some c →
      OverridesBroken (fold_of (take s list)) (fold_of (take (s + 1) list)) c
