-- An assertion is broken by a batch that overrides it, and by nothing else.
use Rattle.std.proofs.Common.{◌≡◌, ℕ, refl, sym, ap, ◌∙◌, Bool, true, false, cond, List, [], ◌∷◌, ◌++◌, length, map, filter, find, Option, Some, None, Result, Ok, Err, arith, ◌⊎◌, inl, inr, true≢false}
use Rattle.std.specs.Prelude.{◌==◌, ◌||◌, ◌&&◌, not, nat_lt, unwrap_or, is_some}
use Rattle.std.specs.Bool.{beq}
use Rattle.std.specs.List.{list_any, filter_map}
use Rattle.std.specs.Option.{option_map, option_or}
use Rattle.std.specs.Str.{bytes_eq}
use Rattle.std.proofs.lemmas.Bool.{cases_Bool, eqb-true}
use Rattle.std.proofs.lemmas.Bool.Decides.{nat_tests}
use Rattle.std.proofs.lemmas.List.Folds.{find-append}
use Rattle.std.proofs.lemmas.Option.{none-some, same_Some}
use Rattle.arc_ids.specs.declared.named_id.ControlId.{ControlId}
use Rattle.arc_ids.specs.declared.named_id.PanelId.{PanelId}
use Rattle.arc_ids.specs.declared.named_id.RuleId.{RuleId}
use Rattle.arc_data.specs.declared.batch.Batch.{Batch}
use Rattle.arc_data.specs.declared.batch.Entry.{Entry}
use Rattle.arc_data.specs.declared.reply.Body.TheVariants.{Empty, Control, Rule}
use Rattle.arc_data.specs.declared.reply.ControlItem.{ControlItem}
use Rattle.arc_data.specs.declared.reply.Named.TheVariants as named
use Rattle.arc_data.specs.declared.reply.Refusal.{Refusal}
use Rattle.arc_data.specs.declared.reply.Refusal.TheVariants.{NotFound, Forbidden as IsForbidden}
use Rattle.arc_data.specs.declared.rule.Cause.TheVariants.{AssertFalse}
use Rattle.arc_data.specs.declared.rule.Forbidden.{Forbidden}
use Rattle.arc_data.specs.declared.rule.RuleSpec.{RuleSpec}
use Rattle.arc_plain.specs.Batch.{PlainControls, commit_batch, refuse_forbidden, with_batch}
use Rattle.arc_plain.specs.Cluster.{left_by}
use Rattle.arc_plain.specs.Controls.{create_routing_control, delete_routing_control, update_states}
use Rattle.arc_plain.specs.Panels.{PlainPanels, add_control, has_control, has_panel, most_controls, next_control, on_of, remove_control, set_by, with_set}
use Rattle.arc_plain.specs.Rows.{◌>>=◌, require, refuse_found}
use Rattle.arc_plain.specs.Rules.{PlainRule, PlainRules, add_rule, after, cause_of, change_first, changed_by, forbidding, forbids, is_gate, last_change, meets, overrides, value_cause, wait_cause, watched_by, found_rule, has_rule, holds_name, is_among, is_rule, most_rules, names_control, next_rule, remove_rule, renamed, update_rule, user_of, value_of}
use Rattle.arc_plain.specs.SafetyRules.{create_safety_rule, delete_safety_rule, first_outside, update_safety_rule}
use Rattle.arc_plain.specs.State.{Effect, Plain, with_panels, with_rules}
use Rattle.arc_plain.proofs.Lists.{nothing_through}
use Rattle.arc_told.proofs.Values.{Agree, agree_everywhere, agree_value, find_kept, find_removed, on_in, on_made}

-- each rule that is there before and after has one value in both
abbrev pub KeepsIn : List ControlItem → List ControlItem → List PlainRule → List PlainRule → Type 0
KeepsIn items items' rules rules' =
    (rule : RuleId) (was is : PlainRule) → find (λ r. r.rule.0 == rule.0) rules ≡ Some was → find (λ r. r.rule.0 == rule.0) rules' ≡ Some is →
    value_of was.spec.config was.spec.controls (on_in items) ≡ value_of is.spec.config is.spec.controls (on_in items')

-- where nothing changed
pub keeps_same : (items : List ControlItem) (rules : List PlainRule) → KeepsIn items items rules rules
keeps_same items rules rule was is before after =
    ap (λ (r : PlainRule). value_of r.spec.config r.spec.controls (on_in items)) (same_Some _ _ (sym before ∙ after))

-- with a control more that is Off
keeps_made : (items : List ControlItem) (new : ControlItem) (rules : List PlainRule) → new.on ≡ false → KeepsIn items (items ++ new ∷ []) rules rules
keeps_made items new rules off rule was is before after =
    keeps_same items rules rule was is before after
    ∙ agree_value is.spec.config (on_in items) (on_in (items ++ new ∷ [])) is.spec.controls (agree_everywhere (on_in items) (on_in (items ++ new ∷ [])) is.spec.controls (λ c. sym (on_made items new c off)))

-- what passes one test and is found fails another that nothing passes
found_fails : {A : Type 0} (p q : A → Bool) (xs : List A) (x : A) → find p xs ≡ Some x → find q xs ≡ None → q x ≡ false
found_fails p q [] x found none = absurd (none-some x found)
found_fails p q (y ∷ xs) x found none =
    elim (cases_Bool (q y)) [
      | inl holds ↦ absurd (none-some y (sym (rw holds at none)))
      | inr fails ↦ elim (cases_Bool (p y)) [
        | inl here ↦ ap q (sym (same_Some _ _ (rw here at found))) ∙ fails
        | inr there ↦ found_fails p q xs x (rw there at found) (rw fails at none)
      ]
    ]

-- neither of two
or_false : (a b : Bool) → (a || b) ≡ false → a ≡ false
or_false true b neither = absurd (true≢false neither)
or_false false b neither = refl

-- the controls of a rule that doesn't name the one that goes
agree_gone : (items : List ControlItem) (gone : ControlId) (controls : List ControlId) → is_among controls gone ≡ false → Agree (on_in items) (on_in (filter (λ k. not (k.control.0 == gone.0)) items)) controls
agree_gone items gone [] other = tt
agree_gone items gone (c ∷ controls) other =
    elim (cases_Bool (c.0 == gone.0)) [
      | inl same ↦ absurd (true≢false (rw same at other))
      | inr differs ↦ (
        ap (λ o. unwrap_or (option_map (λ k. k.on) o) false) (sym (find_kept (λ k. k.control.0) gone.0 c.0 items differs)),
        agree_gone items gone controls (rw differs at other),
      )
    ]

-- without a control that no rule names
keeps_gone : (items : List ControlItem) (gone : ControlId) (rules : List PlainRule) → find (λ r. names_control r.spec gone) rules ≡ None → KeepsIn items (filter (λ k. not (k.control.0 == gone.0)) items) rules rules
keeps_gone items gone rules unused rule was is before after =
    let unnamed = or_false _ _ (found_fails (λ r. r.rule.0 == rule.0) (λ r. names_control r.spec gone) rules is after unused) in
    keeps_same items rules rule was is before after
    ∙ agree_value is.spec.config (on_in items) (on_in (filter (λ k. not (k.control.0 == gone.0)) items)) is.spec.controls (agree_gone items gone is.spec.controls unnamed)

-- with a rule more
keeps_rule_made : (items : List ControlItem) (rules : List PlainRule) (new : PlainRule) → KeepsIn items items rules (rules ++ new ∷ [])
keeps_rule_made items rules new rule was is before after =
    let there : find (λ r. r.rule.0 == rule.0) (rules ++ new ∷ []) ≡ Some was =
    find-append (λ r. r.rule.0 == rule.0) rules (new ∷ []) ∙ ap (λ o. option_or o (find (λ r. r.rule.0 == rule.0) (new ∷ []))) before in
    ap (λ (r : PlainRule). value_of r.spec.config r.spec.controls (on_in items)) (same_Some _ _ (sym there ∙ after))

-- without a rule
keeps_rule_gone : (items : List ControlItem) (rules : List PlainRule) (gone : RuleId) → KeepsIn items items rules (filter (λ r. not (r.rule.0 == gone.0)) rules)
keeps_rule_gone items rules gone rule was is before after =
    elim (cases_Bool (rule.0 == gone.0)) [
      | inl same ↦
          let key = eqb-true rule.0 gone.0 same in
          absurd (none-some is (sym (find_removed (λ r. r.rule.0) gone.0 rules) ∙ (ap (λ n. find (λ r. r.rule.0 == n) (filter (λ r. not (r.rule.0 == gone.0)) rules)) (sym key) ∙ after)))
      | inr differs ↦ keeps_same items rules rule was is before (sym (find_kept (λ r. r.rule.0) gone.0 rule.0 rules differs) ∙ after)
    ]

-- a rule that is changed keeps its configuration and its controls
changed_same : (test : PlainRule → Bool) (name : List ℕ) (wait n : ℕ) (rules : List PlainRule) (was is : PlainRule) → find (λ r. r.rule.0 == n) rules ≡ Some was → find (λ r. r.rule.0 == n) (change_first test (λ r. record r { spec = renamed name wait r.spec }) rules) ≡ Some is → (was.spec.config ≡ is.spec.config) × (was.spec.controls ≡ is.spec.controls)
changed_same test name wait n [] was is before after = absurd (none-some was before)
changed_same test name wait n (r ∷ rules) was is before after =
    elim (cases_Bool (test r)) [
      | inl changes ↦
          let after' = rw changes at after in
          elim (cases_Bool (r.rule.0 == n)) [
            | inl here ↦
                let w = same_Some _ _ (rw here at before) in
                let i = same_Some _ _ (rw here at after') in
                (sym (ap (λ (x : PlainRule). x.spec.config) w) ∙ ap (λ (x : PlainRule). x.spec.config) i, sym (ap (λ (x : PlainRule). x.spec.controls) w) ∙ ap (λ (x : PlainRule). x.spec.controls) i)
            | inr there ↦
                let same = same_Some _ _ (sym (rw there at before) ∙ (rw there at after')) in
                (ap (λ (x : PlainRule). x.spec.config) same, ap (λ (x : PlainRule). x.spec.controls) same)
          ]
      | inr stays ↦
          let after' = rw stays at after in
          elim (cases_Bool (r.rule.0 == n)) [
            | inl here ↦
                let same = same_Some _ _ (sym (rw here at before) ∙ (rw here at after')) in
                (ap (λ (x : PlainRule). x.spec.config) same, ap (λ (x : PlainRule). x.spec.controls) same)
            | inr there ↦ changed_same test name wait n rules was is (rw there at before) (rw there at after')
          ]
    ]

-- with a rule that has another name and another wait
keeps_rule_changed : (items : List ControlItem) (rules : List PlainRule) (test : PlainRule → Bool) (name : List ℕ) (wait : ℕ) → KeepsIn items items rules (change_first test (λ r. record r { spec = renamed name wait r.spec }) rules)
keeps_rule_changed items rules test name wait rule was is before after =
    let same = changed_same test name wait rule.0 rules was is before after in
    ap (λ k. value_of k was.spec.controls (on_in items)) same.0 ∙ ap (λ cs. value_of is.spec.config cs (on_in items)) same.1

-- ---- rows

-- what holds of each refusal, and of what comes behind a test that passes, holds of both in turn
pub by_require : {A : Type 0} (P : Result A Refusal → Type 0) (b : Bool) (why : Refusal) (f : Unit {0} → Result A Refusal) → ((e : Refusal) → P (Err e)) → P (f tt) → P (require b why >>= f)
by_require P true why f refused passed = passed
by_require P false why f refused passed = refused why

pub by_found : {A B : Type 0} (P : Result A Refusal → Type 0) (why : B → Refusal) (o : Option B) (f : Unit {0} → Result A Refusal) → ((e : Refusal) → P (Err e)) → (o ≡ None → P (f tt)) → P (refuse_found why o >>= f)
by_found P why None f refused passed = passed refl
by_found P why (Some x) f refused passed = refused (why x)

-- an effect keeps the values of all rules
abbrev pub Keeps : Plain → Effect → Type 0
Keeps plain effect =
    KeepsIn plain.controls.panels.controls (left_by plain effect).controls.panels.controls plain.controls.rules.rules (left_by plain effect).controls.rules.rules

refused_keeps : (plain : Plain) (e : Refusal) → Keeps plain (Err e)
refused_keeps plain e = keeps_same plain.controls.panels.controls plain.controls.rules.rules

-- a control that is made
pub create_routing_control-keeps : (plain : Plain) (name : List ℕ) (panel : PanelId) → Keeps plain (create_routing_control plain name panel)
unfolding create_routing_control add_control
create_routing_control-keeps plain name panel =
    let panels = plain.controls.panels in
    let P = λ (r : Result (ControlId × PlainPanels) Refusal). Keeps plain (r >>= (λ made. Ok (Control panel name made.0, with_panels plain made.1))) in
    by_require P (has_panel panels panel) _ _ (refused_keeps plain)
    (by_require P (nat_lt (length panels.controls) most_controls) _ _ (refused_keeps plain)
    (by_found P _ (find (λ c. (c.panel.0 == panel.0) && bytes_eq c.name name) panels.controls) _ (refused_keeps plain)
    (λ free. keeps_made panels.controls (record { panel = panel; control = next_control panels; name = name; on = false }) plain.controls.rules.rules refl)))

-- one that goes
pub delete_routing_control-keeps : (plain : Plain) (control : ControlId) → Keeps plain (delete_routing_control plain control)
unfolding delete_routing_control remove_control
delete_routing_control-keeps plain control =
    let panels = plain.controls.panels in
    let rules = plain.controls.rules.rules in
    let P = λ (r : Effect). Keeps plain r in
    let Q = λ (r : Result (Unit {0} × PlainPanels) Refusal). Keeps plain (r >>= (λ done. Ok (Empty, with_panels plain done.1))) in
    by_require P (has_control panels control) _ _ (refused_keeps plain)
    (by_found P _ (user_of plain.controls.rules control) _ (refused_keeps plain)
    (λ unused. by_require Q (has_control panels control) _ _ (refused_keeps plain)
    (keeps_gone panels.controls control rules (nothing_through (λ r. r.rule) (find (λ r. names_control r.spec control) rules) unused))))

-- a rule that is made
pub create_safety_rule-keeps : (plain : Plain) (spec : RuleSpec) → Keeps plain (create_safety_rule plain spec)
unfolding create_safety_rule add_rule
create_safety_rule-keeps plain spec =
    let panels = plain.controls.panels in
    let rules = plain.controls.rules in
    let P = λ (r : Effect). Keeps plain r in
    let Q = λ (r : Result (RuleId × PlainRules) Refusal). Keeps plain (r >>= (λ made. Ok (Rule made.0, with_rules plain made.1))) in
    by_require P (has_panel panels spec.panel) _ _ (refused_keeps plain)
    (by_found P _ (first_outside panels spec) _ (refused_keeps plain)
    (λ there. by_require Q (nat_lt (length rules.rules) most_rules) _ _ (refused_keeps plain)
    (by_found Q _ (find (λ r. holds_name spec.panel spec.name r.spec) rules.rules) _ (refused_keeps plain)
    (λ free. keeps_rule_made panels.controls rules.rules (record { rule = next_rule rules; spec = spec; made_after = length rules.changes })))))

-- one that goes
pub delete_safety_rule-keeps : (plain : Plain) (rule : RuleId) → Keeps plain (delete_safety_rule plain rule)
unfolding delete_safety_rule remove_rule
delete_safety_rule-keeps plain rule =
    let rules = plain.controls.rules in
    let Q = λ (r : Result (Unit {0} × PlainRules) Refusal). Keeps plain (r >>= (λ done. Ok (Empty, with_rules plain done.1))) in
    by_require Q (has_rule rules rule) _ _ (refused_keeps plain)
    (keeps_rule_gone plain.controls.panels.controls rules.rules rule)

-- what was looked for is there, or it is refused
by_rule : (P : Result (Unit {0} × PlainRules) Refusal → Type 0) (rule : RuleId) (o : Option PlainRule) (f : PlainRule → Result (Unit {0} × PlainRules) Refusal) → ((e : Refusal) → P (Err e)) → ((r : PlainRule) → P (f r)) → P (found_rule rule o >>= f)
by_rule P rule None f refused passed = refused (NotFound (named.Rule rule))
by_rule P rule (Some r) f refused passed = passed r

-- one that is changed
pub update_safety_rule-keeps : (plain : Plain) (gating : Bool) (rule : RuleId) (name : List ℕ) (wait : ℕ) → Keeps plain (update_safety_rule plain gating rule name wait)
unfolding update_safety_rule update_rule
update_safety_rule-keeps plain gating rule name wait =
    let rules = plain.controls.rules in
    let Q = λ (r : Result (Unit {0} × PlainRules) Refusal). Keeps plain (r >>= (λ done. Ok (Empty, with_rules plain done.1))) in
    by_rule Q rule (find (is_rule gating rule) rules.rules) _ (refused_keeps plain)
    (λ there. by_found Q _ (find (λ r. not (r.rule.0 == rule.0) && holds_name there.spec.panel name r.spec) rules.rules) _ (refused_keeps plain)
    (λ free. keeps_rule_changed plain.controls.panels.controls rules.rules (is_rule gating rule) name wait))

-- ---- a batch

-- what is found passes
found_passes : {A : Type 0} (p : A → Bool) (xs : List A) (x : A) → find p xs ≡ Some x → p x ≡ true
found_passes p [] x found = absurd (none-some x found)
found_passes p (y ∷ xs) x found =
    elim (cases_Bool (p y)) [
      | inl here ↦ ap p (sym (same_Some _ _ (rw here at found))) ∙ here
      | inr there ↦ found_passes p xs x (rw there at found)
    ]

-- no list with an item is empty
cons_nil : {A : Type 0} {x : A} {xs : List A} → x ∷ xs ≡ [] → ⊥
cons_nil same = let e = ap length same in absurd (omega arith)

-- an option is empty or isn't
cases_Option : {A : Type 0} → (o : Option A) → (o ≡ None) ⊎ ((x : A) × (o ≡ Some x))
cases_Option None = inl refl
cases_Option (Some x) = inr (x, refl)

-- nothing comes of what is there where nothing comes of all
nothing_of : {A C : Type 0} (h : A → Option C) (p : A → Bool) (xs : List A) (x : A) → filter_map h xs ≡ [] → find p xs ≡ Some x → h x ≡ None
nothing_of h p [] x none found = absurd (none-some x found)
nothing_of h p (y ∷ xs) x none found =
    elim (cases_Option (h y)) [
      | inl nothing ↦ elim (cases_Bool (p y)) [
        | inl here ↦ ap h (sym (same_Some _ _ (rw here at found))) ∙ nothing
        | inr there ↦ nothing_of h p xs x (rw nothing at none) (rw there at found)
      ]
      | inr something ↦ absurd (cons_nil (rw something.1 at none))
    ]

-- a batch sets a control as its entry says
set_on : (o : Option Entry) (k : ControlItem) → (set_by o k).on ≡ unwrap_or (option_map (λ e. e.on) o) k.on
set_on None k = refl
set_on (Some e) k = refl

set_key : (o : Option Entry) (k : ControlItem) → (set_by o k).control.0 ≡ k.control.0
set_key None k = refl
set_key (Some e) k = refl

-- the entry of a control
abbrev entry_of : List Entry → ℕ → Option Entry
entry_of entries n = find (λ e. e.control.0 == n) entries

-- a control is found as its entry sets it
set_found : (entries : List Entry) (items : List ControlItem) (n : ℕ) → find (λ k. k.control.0 == n) (with_set entries items) ≡ option_map (λ k. set_by (entry_of entries k.control.0) k) (find (λ k. k.control.0 == n) items)
set_found entries [] n = refl
set_found entries (k ∷ items) n =
    let key = set_key (entry_of entries k.control.0) k in
    elim (cases_Bool (k.control.0 == n)) [
      | inl here ↦
          let test : ((set_by (entry_of entries k.control.0) k).control.0 == n) ≡ true = ap (λ m. m == n) key ∙ here in
          rw test (rw here refl)
      | inr there ↦
          let test : ((set_by (entry_of entries k.control.0) k).control.0 == n) ≡ false = ap (λ m. m == n) key ∙ there in
          rw test (rw there (set_found entries items n))
    ]

-- a control that has an entry is there
entry_there : (items : List ControlItem) (entries : List Entry) (n : ℕ) (e : Entry) → find (λ e. not (is_some (find (λ k. k.control.0 == e.control.0) items))) entries ≡ None → entry_of entries n ≡ Some e → find (λ k. k.control.0 == n) items ≡ None → ⊥
entry_there items entries n e known found none =
    let key = eqb-true e.control.0 n (found_passes (λ e. e.control.0 == n) entries e found) in
    let there = found_fails (λ e. e.control.0 == n) (λ e. not (is_some (find (λ k. k.control.0 == e.control.0) items))) entries e found known in
    let missing : find (λ k. k.control.0 == e.control.0) items ≡ None = ap (λ m. find (λ k. k.control.0 == m) items) key ∙ none in
    absurd (true≢false (rw missing at there))

-- after a batch a control is as the batch says
on_after : (entries : List Entry) (items : List ControlItem) (c : ControlId) → find (λ e. not (is_some (find (λ k. k.control.0 == e.control.0) items))) entries ≡ None → after entries (on_in items) c ≡ on_in (with_set entries items) c
on_after entries items c known =
    let set = ap (λ o. unwrap_or (option_map (λ k. k.on) o) false) (set_found entries items c.0) in
    elim (cases_Option (find (λ k. k.control.0 == c.0) items)) [
      | inl missing ↦ elim (cases_Option (entry_of entries c.0)) [
        | inl idle ↦
            let now : on_in (with_set entries items) c ≡ false = set ∙ ap (λ o. unwrap_or (option_map (λ k. k.on) (option_map (λ k. set_by (entry_of entries k.control.0) k) o)) false) missing in
            let was : after entries (on_in items) c ≡ false = ap (λ o. unwrap_or (option_map (λ e. e.on) o) (on_in items c)) idle ∙ ap (λ o. unwrap_or (option_map (λ k. k.on) o) false) missing in
            was ∙ sym now
        | inr entry ↦ absurd (entry_there items entries c.0 entry.0 known entry.1 missing)
      ]
      | inr there ↦
          let k = there.0 in
          let key = eqb-true k.control.0 c.0 (found_passes (λ k. k.control.0 == c.0) items k there.1) in
          let now = set ∙ ap (λ o. unwrap_or (option_map (λ k. k.on) (option_map (λ k. set_by (entry_of entries k.control.0) k) o)) false) there.1 in
          let was = ap (λ o. unwrap_or (option_map (λ e. e.on) (entry_of entries c.0)) (unwrap_or (option_map (λ k. k.on) o) false)) there.1 in
          was ∙ (ap (λ n. unwrap_or (option_map (λ e. e.on) (entry_of entries n)) k.on) (sym key) ∙ (sym (set_on (entry_of entries k.control.0) k) ∙ sym now))
    ]

-- an entry whose control isn't watched, or doesn't change
idle_entry : (watches differs : ControlId → Bool) (entries : List Entry) (n : ℕ) (e : Entry) → list_any watches (filter differs (map (λ e. e.control) entries)) ≡ false → find (λ e. e.control.0 == n) entries ≡ Some e → watches e.control ≡ true → differs e.control ≡ false
idle_entry watches differs [] n e none found watched = absurd (none-some e found)
idle_entry watches differs (x ∷ entries) n e none found watched =
    elim (cases_Bool (differs x.control)) [
      | inl changes ↦
          let none' = rw changes at none in
          elim (cases_Bool (watches x.control)) [
            | inl seen ↦ absurd (true≢false (rw seen at none'))
            | inr unseen ↦ elim (cases_Bool (x.control.0 == n)) [
              | inl here ↦
                  let same = same_Some _ _ (rw here at found) in
                  absurd (true≢false (sym watched ∙ (ap (λ (y : Entry). watches y.control) (sym same) ∙ unseen)))
              | inr there ↦ idle_entry watches differs entries n e (rw unseen at none') (rw there at found) watched
            ]
          ]
      | inr stays ↦ elim (cases_Bool (x.control.0 == n)) [
        | inl here ↦ ap (λ (y : Entry). differs y.control) (sym (same_Some _ _ (rw here at found))) ∙ stays
        | inr there ↦ idle_entry watches differs entries n e (rw stays at none) (rw there at found) watched
      ]
    ]

-- what is no different is the same
beq_same : (a b : Bool) → not (beq a b) ≡ false → a ≡ b
beq_same true true same = refl
beq_same false false same = refl
beq_same true false same = absurd (true≢false same)
beq_same false true same = absurd (true≢false same)

-- identifiers with one number are one
id_same : (a b : ControlId) → a.0 ≡ b.0 → a ≡ b
id_same a b same = ap (λ n. record { 0 = n }) same

-- all of these are among those
abbrev Among : List ControlId → List ControlId → Type 0
Among watched [] = Unit {0}
Among watched (c ∷ controls) = (is_among watched c ≡ true) × Among watched controls

-- a watched control that a batch doesn't change is as it was
unchanged : (watched : List ControlId) (entries : List Entry) (on : ControlId → Bool) (c : ControlId) → list_any (is_among watched) (changed_by entries on) ≡ false → is_among watched c ≡ true → on c ≡ after entries on c
unchanged watched entries on c none seen =
    elim (cases_Option (entry_of entries c.0)) [
      | inl idle ↦ sym (ap (λ o. unwrap_or (option_map (λ e. e.on) o) (on c)) idle)
      | inr entry ↦
          let key = eqb-true entry.0.control.0 c.0 (found_passes (λ e. e.control.0 == c.0) entries entry.0 entry.1) in
          let same : entry.0.control ≡ c = id_same entry.0.control c key in
          let still = idle_entry (is_among watched) (λ c. not (beq (after entries on c) (on c))) entries c.0 entry.0 none entry.1 (ap (is_among watched) same ∙ seen) in
          sym (beq_same (after entries on c) (on c) (ap (λ d. not (beq (after entries on d) (on d))) (sym same) ∙ still))
    ]

-- so it is with all controls among them
agree_unchanged : (watched : List ControlId) (entries : List Entry) (on : ControlId → Bool) (controls : List ControlId) → list_any (is_among watched) (changed_by entries on) ≡ false → Among watched controls → Agree on (after entries on) controls
agree_unchanged watched entries on [] none among = tt
agree_unchanged watched entries on (c ∷ controls) none among =
    (unchanged watched entries on c none among.0, agree_unchanged watched entries on controls none among.1)

-- one more among them
among_more : (first : ControlId) (watched controls : List ControlId) → Among watched controls → Among (first ∷ watched) controls
among_more first watched [] among = tt
among_more first watched (c ∷ controls) among = (
  elim (cases_Bool (first.0 == c.0)) [
    | inl here ↦ rw here refl
    | inr there ↦ rw there among.0
  ],
  among_more first watched controls among.1,
)

-- all are among themselves
among_all : (controls : List ControlId) → Among controls controls
among_all [] = tt
among_all (c ∷ controls) =
    let here : (c.0 == c.0) ≡ true = grind (arith, nat_tests) in
    (rw here refl, among_more c controls controls (among_all controls))

-- an option that is empty gives the other
other_of : {A : Type 0} (o : Option A) (d : A) → is_some o ≡ false → unwrap_or o d ≡ d
other_of None d none = refl
other_of (Some x) d none = absurd (true≢false none)

-- the first of two options is empty where both are
first_none : {A : Type 0} (o p : Option A) → option_or o p ≡ None → o ≡ None
first_none None p none = refl
first_none (Some x) p none = none

-- a test without a cause passes
holds_by : (value : Bool) → (cond value None (Some AssertFalse)) ≡ None → value ≡ true
holds_by true none = refl
holds_by false none = absurd (none-some AssertFalse (sym none))

-- an assertion without a cause is true afterwards
holds_after : (spec : RuleSpec) (before afterwards : ControlId → Bool) → is_gate spec ≡ false → value_cause spec before afterwards ≡ None → value_of spec.config spec.controls afterwards ≡ true
holds_after spec before afterwards gate none = holds_by (value_of spec.config spec.controls afterwards) (rw gate at none)

-- an effect breaks an assertion only where the batch overrides it
abbrev pub BreaksBy : Plain → Batch → Effect → Type 0
BreaksBy plain batch effect =
    (rule : RuleId) (was is : PlainRule) → find (λ r. r.rule.0 == rule.0) plain.controls.rules.rules ≡ Some was →
    find (λ r. r.rule.0 == rule.0) (left_by plain effect).controls.rules.rules ≡ Some is → is_gate was.spec ≡ false →
    value_of was.spec.config was.spec.controls (on_in plain.controls.panels.controls) ≡ true →
    value_of is.spec.config is.spec.controls (on_in (left_by plain effect).controls.panels.controls) ≡ false →
    overrides batch rule ≡ true

refused_breaks : (plain : Plain) (batch : Batch) (e : Refusal) → BreaksBy plain batch (Err e)
refused_breaks plain batch e rule was is before then gate holds fails =
    absurd (true≢false (sym holds ∙ (keeps_same plain.controls.panels.controls plain.controls.rules.rules rule was is before then ∙ fails)))

-- a batch that no rule forbids
allowed_breaks : (plain : Plain) (batch : Batch) → find (λ e. not (has_control plain.controls.panels e.control)) batch.entries ≡ None → forbidding plain.controls.rules batch (on_of plain.controls.panels) plain.time ≡ []
    → BreaksBy plain batch (Ok (Empty, record plain { controls = with_batch plain.controls batch plain.time }))
allowed_breaks plain batch known allowed rule was is before after_ gate holds fails =
    let items = plain.controls.panels.controls in
    let rules = plain.controls.rules.rules in
    let on = on_in items in
    let entries = batch.entries in
    let last = last_change plain.controls.rules.changes in
    elim (cases_Bool (overrides batch rule)) [
      | inl overridden ↦ overridden
      | inr bound ↦
          let key = eqb-true was.rule.0 rule.0 (found_passes (λ r. r.rule.0 == rule.0) rules was before) in
          let bound' : overrides batch was.rule ≡ false = ap (λ n. list_any (λ r. r.0 == n) batch.overrides) key ∙ bound in
          let free = nothing_of (λ r. forbids batch on plain.time r.rule r.spec (last r)) (λ r. r.rule.0 == rule.0) rules was allowed before in
          let free' = rw bound' at free in
          let same = same_Some _ _ (sym before ∙ after_) in
          let fails' : value_of was.spec.config was.spec.controls (on_in (with_set entries items)) ≡ false = ap (λ (r : PlainRule). value_of r.spec.config r.spec.controls (on_in (with_set entries items))) same ∙ fails in
          let set = agree_value was.spec.config (after entries on) (on_in (with_set entries items)) was.spec.controls (agree_everywhere (after entries on) (on_in (with_set entries items)) was.spec.controls (λ c. on_after entries items c known)) in
          elim (cases_Bool (meets batch on was.spec)) [
            | inl met ↦
                let cause = nothing_through (λ cause. record { rule = was.rule; cause = cause }) (cause_of was.spec (last was) batch on plain.time) (rw met at free') in
                let value = holds_after was.spec on (after entries on) gate (first_none (value_cause was.spec on (after entries on)) (wait_cause was.spec.wait_ms plain.time (last was)) cause) in
                absurd (true≢false (sym value ∙ (set ∙ fails')))
            | inr unmet ↦
                let watched : watched_by was.spec ≡ was.spec.controls = other_of was.spec.targets was.spec.controls gate in
                let none : list_any (is_among was.spec.controls) (changed_by entries on) ≡ false = ap (λ w. list_any (is_among w) (changed_by entries on)) (sym watched) ∙ unmet in
                let still = agree_value was.spec.config on (after entries on) was.spec.controls (agree_unchanged was.spec.controls entries on was.spec.controls none (among_all was.spec.controls)) in
                absurd (true≢false (sym holds ∙ (still ∙ (set ∙ fails'))))
          ]
    ]

by_forbidden : {A : Type 0} (P : Result A Refusal → Type 0) (all : List Forbidden) (f : Unit {0} → Result A Refusal) → ((e : Refusal) → P (Err e)) → (all ≡ [] → P (f tt)) → P (refuse_forbidden all >>= f)
by_forbidden P [] f refused passed = passed refl
by_forbidden P (first ∷ others) f refused passed = refused (IsForbidden (first ∷ others))

pub update_states-breaks : (plain : Plain) (batch : Batch) → BreaksBy plain batch (update_states plain batch)
unfolding update_states commit_batch
update_states-breaks plain batch =
    let Q = λ (r : Result (Unit {0} × PlainControls) Refusal). BreaksBy plain batch (r >>= (λ done. Ok (Empty, record plain { controls = done.1 }))) in
    by_found Q _ (find (λ e. not (has_control plain.controls.panels e.control)) batch.entries) _ (refused_breaks plain batch)
    (λ known. by_found Q _ (find (λ r. not (has_rule plain.controls.rules r)) batch.overrides) _ (refused_breaks plain batch)
    (λ rules. by_forbidden Q (forbidding plain.controls.rules batch (on_of plain.controls.panels) plain.time) _ (refused_breaks plain batch)
    (λ allowed. allowed_breaks plain batch known allowed)))
