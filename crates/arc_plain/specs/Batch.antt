-- What a batch does.
use Rattle.std.specs.Prelude.{ℕ, List, [], ◌∷◌, find, not, Result, Ok, Err}
use Rattle.arc_data.specs.declared.batch.Batch.{Batch}
use Rattle.arc_data.specs.declared.reply.Named.TheVariants as named
use Rattle.arc_data.specs.declared.reply.Refusal.{Refusal}
use Rattle.arc_data.specs.declared.reply.Refusal.TheVariants.{NotFound, Forbidden as IsForbidden}
use Rattle.arc_data.specs.declared.rule.Forbidden.{Forbidden}
use Rattle.arc_plain.specs.Rows.{◌>>=◌, refuse_found}
use Rattle.arc_plain.specs.Panels.{PlainPanels, has_control, on_of, with_states}
use Rattle.arc_plain.specs.Rules.{PlainRules, has_rule, forbidding, changed_by, with_changes}

-- panels, controls and rules
pub record PlainControls : Type 0 where
  pub panels : PlainPanels
  pub rules : PlainRules

-- to go on where no rule forbids
abbrev pub refuse_forbidden : List Forbidden → Result (Unit {0}) Refusal
refuse_forbidden [] = Ok tt
refuse_forbidden (first ∷ others) = Err (IsForbidden (first ∷ others))

-- with all entries of a batch set and its changes accepted at a list time
abbrev pub with_batch : PlainControls → Batch → ℕ → PlainControls
with_batch plain batch now = record {
  panels = with_states plain.panels batch.entries;
  rules = with_changes plain.rules (changed_by batch.entries (on_of plain.panels)) now;
}

-- The first unknown control refuses a batch, then its first unknown override, then all rules that forbid it. Else all
-- its entries are set.
unfoldable pub commit_batch : PlainControls → Batch → ℕ → Result (Unit {0} × PlainControls) Refusal
commit_batch plain batch now = do
  controls ← refuse_found (λ e. NotFound (named.Control e.control))
      (find (λ e. not (has_control plain.panels e.control)) batch.entries)
  rules ← refuse_found (λ r. NotFound (named.Rule r)) (find (λ r. not (has_rule plain.rules r)) batch.overrides)
  allowed ← refuse_forbidden (forbidding plain.rules batch (on_of plain.panels) now)
  Ok (tt, with_batch plain batch now)
