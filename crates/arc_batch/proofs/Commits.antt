-- What a batch does to the parts that are kept.
use Rattle.std.proofs.Common.{◌≡◌, ℕ, ◌==◌, ◌<◌, ◌≤◌, ◌-◌, Bool, true, false, cond, not, List, [], ◌∷◌, find, drop, length, get_or, Option, Some, None, refl, ap, ◌∙◌, arith}
use Rattle.std.specs.Option.{is_some}
use Rattle.arc_ids.specs.declared.named_id.ControlId.{ControlId}
use Rattle.arc_ids.specs.declared.named_id.RuleId.{RuleId}
use Rattle.arc_data.specs.declared.batch.Batch.{Batch}
use Rattle.arc_data.specs.declared.batch.Entry.{Entry}
use Rattle.arc_data.specs.declared.reply.Body.TheVariants.{Empty}
use Rattle.arc_data.specs.declared.reply.ControlItem.{ControlItem}
use Rattle.arc_data.specs.declared.reply.Named.TheVariants as named
use Rattle.arc_data.specs.declared.reply.Refusal.TheVariants.{NotFound, Forbidden as IsForbidden}
use Rattle.arc_data.specs.declared.reply.Reply.TheVariants.{Done, Refused}
use Rattle.arc_data.specs.declared.rule.Forbidden.{Forbidden}
use Rattle.arc_plain.specs.Batch.{commit_batch}
use Rattle.arc_plain.specs.Panels.{set_by, with_set}
use Rattle.arc_plain.specs.Panels.{PlainPanels, has_control, on_of, with_states}
use Rattle.arc_plain.specs.Rules.{PlainRules, changed_by, forbidding, has_rule, with_changes}
use Rattle.arc_plain.proofs.Unfound.{unfound}
use Rattle.arc_plain.proofs.Sets.{sets_more, sets_none}
use Rattle.arc_batch.specs.declared.batch.Controls.{Controls}
use Rattle.arc_batch.specs.Commit.{Commits}
use Rattle.arc_rules.specs.Standing.{StandsFor}

-- a control that is set is the same control
same_control : (o : Option Entry) (c : ControlItem) (n : ℕ) → ((set_by o c).control.0 == n) ≡ (c.control.0 == n)
same_control None c n = refl
same_control (Some e) c n = refl

-- a control that is there stays there when others are set
still_found : (entries : List Entry) (n : ℕ) (xs : List ControlItem) →
    is_some (find (λ c. c.control.0 == n) (with_set entries xs)) ≡ is_some (find (λ c. c.control.0 == n) xs)
still_found entries n [] = refl
still_found entries n (c ∷ xs) =
    rw (same_control (find (λ e. e.control.0 == c.control.0) entries) c n) (chosen (c.control.0 == n) _ c _ _ (still_found entries n xs))
  where
    chosen : (b : Bool) (x y : ControlItem) (o q : Option ControlItem) → is_some o ≡ is_some q →
        is_some (cond b (Some x) o) ≡ is_some (cond b (Some y) q)
    chosen true x y o q same = refl
    chosen false x y o q same = same

pub still_there : (panels : PlainPanels) (entries : List Entry) (c : ControlId) →
    has_control (with_states panels entries) c ≡ has_control panels c
still_there panels entries c = still_found entries c.0 panels.controls

module _ (panels : PlainPanels) (rules : PlainRules) (batch : Batch) (now : ℕ) (old : Controls) where
  pub unknown_control : (e : Entry) → Some e ≡ find (λ e. not (has_control panels e.control)) batch.entries →
      Commits (commit_batch (record { panels = panels; rules = rules }) batch now) old (Refused (NotFound (named.Control e.control))) old
  unfolding commit_batch
  unknown_control e found = rw (← found) (refl, refl)

  pub unknown_rule : (r : RuleId) → None ≡ find (λ e. not (has_control panels e.control)) batch.entries →
      Some r ≡ find (λ r. not (has_rule rules r)) batch.overrides →
      Commits (commit_batch (record { panels = panels; rules = rules }) batch now) old (Refused (NotFound (named.Rule r))) old
  unfolding commit_batch
  unknown_rule r known found = rw (← known, ← found) (refl, refl)

  some_forbid : (all : List Forbidden) → 0 < length all → (first : Forbidden) × (others : List Forbidden) × (all ≡ first ∷ others)
  some_forbid [] some = absurd (omega arith)
  some_forbid (first ∷ others) some = (first, others, refl)

  pub forbidden : (all : List Forbidden) → None ≡ find (λ e. not (has_control panels e.control)) batch.entries →
      None ≡ find (λ r. not (has_rule rules r)) batch.overrides → all ≡ forbidding rules batch (on_of panels) now → 0 < length all →
      Commits (commit_batch (record { panels = panels; rules = rules }) batch now) old (Refused (IsForbidden all)) old
  unfolding commit_batch
  forbidden all known overridden is some =
      let parts = some_forbid all some in
      rw (← known, ← overridden, ← is, parts.2) (refl, refl)

  pub accepted : (changed : List ControlId) (new : Controls) → None ≡ find (λ e. not (has_control panels e.control)) batch.entries →
      None ≡ find (λ r. not (has_rule rules r)) batch.overrides → [] ≡ forbidding rules batch (on_of panels) now →
      changed ≡ changed_by batch.entries (on_of panels) → new.panels ≡ with_states panels batch.entries →
      StandsFor new.rules (with_changes rules changed now) →
      Commits (commit_batch (record { panels = panels; rules = rules }) batch now) old (Done Empty) new
  unfolding commit_batch
  accepted changed new known overridden free is set stands =
      rw (← known, ← overridden, ← free) (refl, set, rw is at stands)

-- one entry more
pub set_more : (entries : List Entry) (init before after : PlainPanels) (i : ℕ) (d : Entry) → 0 < i → i ≤ length entries →
    before ≡ with_states init (drop i entries) → after ≡ with_states before (get_or entries (i - 1) d ∷ []) →
    after ≡ with_states init (drop (i - 1) entries)
set_more entries init before after i d some within is becomes =
    becomes
    ∙ ap (λ p. with_states p (get_or entries (i - 1) d ∷ [])) is
    ∙ ap (λ xs. let q : PlainPanels = record init { controls = xs } in q)
    (sets_more entries init.controls (with_set (drop i entries) init.controls)
    (with_set (get_or entries (i - 1) d ∷ []) (with_set (drop i entries) init.controls)) i d some within refl refl)

-- no entry
pub set_none : (entries : List Entry) (init : PlainPanels) → init ≡ with_states init (drop (length entries) entries)
set_none entries init =
    ap (λ xs. let q : PlainPanels = record init { controls = xs } in q) (sets_none entries init.controls)

known_from : (b : Bool) → not b ≡ false → b ≡ true
known_from true is = refl
known_from false is = cc

-- the control of each entry is there
pub known_at : (panels : PlainPanels) (entries : List Entry) (i : ℕ) (d : Entry) →
    find (λ e. not (has_control panels e.control)) entries ≡ None → i < length entries →
    has_control panels (get_or entries i d).control ≡ true
known_at panels entries i d none within =
    known_from (has_control panels (get_or entries i d).control)
    (unfound (λ e. not (has_control panels e.control)) entries none i d within)

-- a list of no length has nothing
pub nothing_left : {A : Type 0} (xs : List A) → length xs ≡ 0 → xs ≡ []
nothing_left [] none = refl
nothing_left (x ∷ xs) none = absurd (omega arith)
