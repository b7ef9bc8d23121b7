-- Every list obeys the rules.
use Rattle.std.proofs.Common.{◌≡◌, ℕ, zero, suc, ◌+◌, ◌++◌, refl, sym, ap, ◌∙◌, subst, Bool, true, false, List, [], ◌∷◌, take, find, Option, Some, None, Result, Ok, arith, inl, inr, true≢false}
use Rattle.std.specs.Prelude.{not, slice_get}
use Rattle.std.specs.List.{list_all}
use Rattle.std.proofs.lemmas.Bool.{cases_Bool}
use Rattle.std.proofs.lemmas.Option.{none-some, same_Some}
use Rattle.arc_ids.specs.declared.named_id.RuleId.{RuleId}
use Rattle.arc_data.specs.declared.batch.Batch.{Batch}
use Rattle.arc_data.specs.declared.command.Command.{Command}
use Rattle.arc_data.specs.declared.op.Op.{Op}
use Rattle.arc_data.specs.declared.op.Op.TheVariants.{UpdateRoutingControlState, UpdateRoutingControlStates, CreateControlPanel, DeleteControlPanel, CreateRoutingControl, DeleteRoutingControl, ListRoutingControls, GetRoutingControlState, CreateSafetyRule, UpdateSafetyRule, DeleteSafetyRule, ListSafetyRules, RegisterManagedResource, GetManagedResource, ListManagedResources, StartZonalShift, UpdateZonalShift, CancelZonalShift, ListZonalShifts, CreatePracticeRunConfiguration, UpdatePracticeRunConfiguration, DeletePracticeRunConfiguration, StartPracticeRun, CancelPracticeRun, UpdateZonalAutoshiftConfiguration, StartAutoshift, EndAutoshift, SetAlarmState}
use Rattle.arc_data.specs.declared.reply.Body.TheVariants.{Empty}
use Rattle.arc_data.specs.declared.reply.Refusal.{Refusal}
use Rattle.arc_data.specs.declared.rule.Forbidden.{Forbidden}
use Rattle.arc_plain.specs.Batch.{PlainControls, commit_batch, refuse_forbidden, with_batch}
use Rattle.arc_plain.specs.Cluster.{arrived, effect_of, fold_of, is_ahead, left_by, next, reply_of}
use Rattle.arc_plain.specs.Controls.{create_control_panel, delete_control_panel, update_states}
use Rattle.arc_plain.specs.Panels.{has_control, on_of}
use Rattle.arc_plain.specs.Rows.{◌>>=◌}
use Rattle.arc_plain.specs.Rules.{PlainRule, forbidding, has_rule, is_gate, overrides}
use Rattle.arc_plain.specs.Reads.{get_managed_resource, get_routing_control_state, list_managed_resources, list_routing_controls, list_safety_rules, list_zonal_shifts, told_in}
use Rattle.arc_plain.specs.ZonalShifts.{cancel_zonal_shift, register_managed_resource, start_zonal_shift, update_zonal_shift}
use Rattle.arc_plain.specs.PracticeRuns.{cancel_practice_run, create_practice_configuration, delete_practice_configuration, end_autoshift, set_alarm_state, start_autoshift, start_practice_run, update_autoshift_configuration, update_practice_configuration}
use Rattle.std.proofs.lemmas.List.Sums.{fold-append}
use Rattle.arc_plain.specs.State.{Effect, Plain, fresh}
use Rattle.arc_told.specs.Obeying.{AreThere, MeetsRules, ObeysRules, OverridesBroken, answer_by, batch_of, rule_of, value_in}
use Rattle.arc_told.proofs.Broken.{BreaksBy, Keeps, KeepsIn, create_routing_control-keeps, create_safety_rule-keeps, delete_routing_control-keeps, delete_safety_rule-keeps, keeps_same, update_safety_rule-keeps, update_states-breaks}
use Rattle.arc_told.proofs.Unseen.{LeavesSame, told_same, create_control_panel-same, delete_control_panel-same, register_managed_resource-same, start_zonal_shift-same, update_zonal_shift-same, cancel_zonal_shift-same, create_practice_configuration-same, update_practice_configuration-same, delete_practice_configuration-same, start_practice_run-same, cancel_practice_run-same, update_autoshift_configuration-same, start_autoshift-same, end_autoshift-same, set_alarm_state-same}

-- where all pass, none is found that fails
pub none_fails : {A : Type 0} (p : A → Bool) (xs : List A) → list_all p xs ≡ true → find (λ x. not (p x)) xs ≡ None
none_fails p [] all = refl
none_fails p (x ∷ xs) all =
    elim (cases_Bool (p x)) [
      | inl passes ↦ rw passes (none_fails p xs (rw passes at all))
      | inr fails ↦ absurd (true≢false (sym (rw fails at all)))
    ]

-- the controls after a batch, where no rule forbids it
abbrev committed : PlainControls → List Forbidden → Result (Unit {0} × PlainControls) Refusal
committed new all = refuse_forbidden all >>= (λ allowed. Ok (tt, new))

-- the answer and the state with these controls
abbrev settled : Plain → Unit {0} × PlainControls → Effect
settled found done = Ok (Empty, record found { controls = done.1 })

-- what a batch is answered whose controls and overrides are there, by the rules that forbid it
by_rules : (all : List Forbidden) (new : PlainControls) (found : Plain) → reply_of (committed new all >>= settled found) ≡ answer_by all
by_rules [] new found = refl
by_rules (first ∷ others) new found = refl

-- a batch that reaches the rules
update_meets : (found : Plain) (batch : Batch) → AreThere found batch → reply_of (update_states found batch) ≡ answer_by (forbidding found.controls.rules batch (on_of found.controls.panels) found.time)
unfolding update_states commit_batch
update_meets found batch there =
    rw (none_fails (λ e. has_control found.controls.panels e.control) batch.entries there.controls)
    (rw (none_fails (has_rule found.controls.rules) batch.overrides there.overrides)
    (by_rules (forbidding found.controls.rules batch (on_of found.controls.panels) found.time) (with_batch found.controls batch found.time) found))

-- by the operation
op_meets : (found : Plain) (op : Op) (batch : Batch) → batch_of op ≡ Some batch → AreThere found batch → reply_of (effect_of found op) ≡ answer_by (forbidding found.controls.rules batch (on_of found.controls.panels) found.time)
op_meets found (UpdateRoutingControlState b) batch is there =
    let same = same_Some _ _ is in
    subst (λ (x : Batch). reply_of (update_states found x) ≡ answer_by (forbidding found.controls.rules batch (on_of found.controls.panels) found.time)) (sym same) (update_meets found batch there)
op_meets found (UpdateRoutingControlStates b) batch is there =
    let same = same_Some _ _ is in
    subst (λ (x : Batch). reply_of (update_states found x) ≡ answer_by (forbidding found.controls.rules batch (on_of found.controls.panels) found.time)) (sym same) (update_meets found batch there)
op_meets found op batch is there = absurd (none-some batch is)

-- a batch meets the rules in every state
pub meets_rules : (plain : Plain) (c : Command) → MeetsRules plain c
meets_rules plain c batch is ahead there =
    rw ahead (op_meets (arrived plain c) c.op batch is (record { controls = there.controls; overrides = there.overrides }))

-- what sees the same controls and rules keeps the values
same_keeps : (plain : Plain) (effect : Effect) → LeavesSame plain effect → Keeps plain effect
same_keeps plain effect same =
    subst (λ items. KeepsIn plain.controls.panels.controls items plain.controls.rules.rules (left_by plain effect).controls.rules.rules) (sym same.controls)
    (subst (λ rules. KeepsIn plain.controls.panels.controls plain.controls.panels.controls plain.controls.rules.rules rules) (sym same.rules)
    (keeps_same plain.controls.panels.controls plain.controls.rules.rules))

-- an operation keeps the values of all rules, unless it is a batch
abbrev KeepsUnless : Plain → Op → Option Batch → Type 0
KeepsUnless plain op None = Keeps plain (effect_of plain op)
KeepsUnless plain op (Some batch) = BreaksBy plain batch (effect_of plain op)

op_keeps : (plain : Plain) (op : Op) → KeepsUnless plain op (batch_of op)
op_keeps plain (CreateControlPanel name) = same_keeps plain (create_control_panel plain name) (create_control_panel-same plain name)
op_keeps plain (DeleteControlPanel panel) = same_keeps plain (delete_control_panel plain panel) (delete_control_panel-same plain panel)
op_keeps plain (CreateRoutingControl name panel) = create_routing_control-keeps plain name panel
op_keeps plain (DeleteRoutingControl control) = delete_routing_control-keeps plain control
op_keeps plain (ListRoutingControls panel) = same_keeps plain (told_in plain (list_routing_controls plain panel)) (told_same plain (list_routing_controls plain panel))
op_keeps plain (GetRoutingControlState control) = same_keeps plain (told_in plain (get_routing_control_state plain control)) (told_same plain (get_routing_control_state plain control))
op_keeps plain (CreateSafetyRule spec) = create_safety_rule-keeps plain spec
op_keeps plain (UpdateSafetyRule gating rule name wait) = update_safety_rule-keeps plain gating rule name wait
op_keeps plain (DeleteSafetyRule rule) = delete_safety_rule-keeps plain rule
op_keeps plain (ListSafetyRules panel) = same_keeps plain (told_in plain (list_safety_rules plain panel)) (told_same plain (list_safety_rules plain panel))
op_keeps plain (RegisterManagedResource name zones) = same_keeps plain (register_managed_resource plain name zones) (register_managed_resource-same plain name zones)
op_keeps plain (GetManagedResource resource) = same_keeps plain (told_in plain (get_managed_resource plain resource)) (told_same plain (get_managed_resource plain resource))
op_keeps plain ListManagedResources = same_keeps plain (told_in plain (list_managed_resources plain)) (told_same plain (list_managed_resources plain))
op_keeps plain (StartZonalShift resource zone minutes comment) = same_keeps plain (start_zonal_shift plain resource zone minutes comment) (start_zonal_shift-same plain resource zone minutes comment)
op_keeps plain (UpdateZonalShift shift comment minutes) = same_keeps plain (update_zonal_shift plain shift comment minutes) (update_zonal_shift-same plain shift comment minutes)
op_keeps plain (CancelZonalShift shift) = same_keeps plain (cancel_zonal_shift plain shift) (cancel_zonal_shift-same plain shift)
op_keeps plain (ListZonalShifts resource status) = same_keeps plain (told_in plain (list_zonal_shifts plain resource status)) (told_same plain (list_zonal_shifts plain resource status))
op_keeps plain (CreatePracticeRunConfiguration resource config) = same_keeps plain (create_practice_configuration plain resource config) (create_practice_configuration-same plain resource config)
op_keeps plain (UpdatePracticeRunConfiguration resource change) = same_keeps plain (update_practice_configuration plain resource change) (update_practice_configuration-same plain resource change)
op_keeps plain (DeletePracticeRunConfiguration resource) = same_keeps plain (delete_practice_configuration plain resource) (delete_practice_configuration-same plain resource)
op_keeps plain (StartPracticeRun resource zone comment) = same_keeps plain (start_practice_run plain resource zone comment) (start_practice_run-same plain resource zone comment)
op_keeps plain (CancelPracticeRun shift) = same_keeps plain (cancel_practice_run plain shift) (cancel_practice_run-same plain shift)
op_keeps plain (UpdateZonalAutoshiftConfiguration resource enabled) = same_keeps plain (update_autoshift_configuration plain resource enabled) (update_autoshift_configuration-same plain resource enabled)
op_keeps plain (StartAutoshift zone) = same_keeps plain (start_autoshift plain zone) (start_autoshift-same plain zone)
op_keeps plain (EndAutoshift zone) = same_keeps plain (end_autoshift plain zone) (end_autoshift-same plain zone)
op_keeps plain (SetAlarmState alarm red) = same_keeps plain (set_alarm_state plain alarm red) (set_alarm_state-same plain alarm red)
op_keeps plain (UpdateRoutingControlState batch) = update_states-breaks plain batch
op_keeps plain (UpdateRoutingControlStates batch) = update_states-breaks plain batch

-- so an assertion that an operation breaks is overridden by it
op_breaks : (plain : Plain) (op : Op) (o : Option Batch) → KeepsUnless plain op o → (rule : RuleId) (was is : PlainRule) → rule_of plain rule ≡ Some was → rule_of (left_by plain (effect_of plain op)) rule ≡ Some is → is_gate was.spec ≡ false → value_in plain was ≡ true → value_in (left_by plain (effect_of plain op)) is ≡ false → (batch : Batch) × (o ≡ Some batch) × (overrides batch rule ≡ true)
op_breaks plain op None keeps rule was is before after gate holds fails =
    absurd (true≢false (sym holds ∙ (keeps rule was is before after ∙ fails)))
op_breaks plain op (Some batch) breaks rule was is before after gate holds fails =
    (batch, refl, breaks rule was is before after gate holds fails)

-- and by a command
next_breaks : (plain : Plain) (c : Command) → OverridesBroken plain (next plain c) c
next_breaks plain c rule was is before after gate holds fails =
    elim (cases_Bool (is_ahead c.token plain.count)) [
      | inl ahead ↦
          absurd (true≢false (sym holds ∙ (keeps_same plain.controls.panels.controls plain.controls.rules.rules rule was is before (rw ahead at after) ∙ (rw ahead at fails))))
      | inr there ↦
          op_breaks (arrived plain c) c.op (batch_of c.op) (op_keeps (arrived plain c) c.op) rule was is before (rw there at after) gate holds (rw there at fails)
    ]

-- the commands up to and with one
take_next : (list : List Command) (s : ℕ) (c : Command) → slice_get list s ≡ Some c → take (suc s) list ≡ take s list ++ c ∷ []
take_next [] s c at = absurd (none-some c at)
take_next (d ∷ list) zero c at = ap (λ x. x ∷ []) (same_Some _ _ at)
take_next (d ∷ list) (suc s) c at = ap (λ l. d ∷ l) (take_next list s c at)

take_more : (list : List Command) (s : ℕ) (c : Command) → slice_get list s ≡ Some c → take (s + 1) list ≡ take s list ++ c ∷ []
take_more list s c at =
    let one : s + 1 ≡ suc s = omega arith in
    ap (λ n. take n list) one ∙ take_next list s c at

-- what they make
fold_more : (list : List Command) (s : ℕ) (c : Command) → slice_get list s ≡ Some c → fold_of (take (s + 1) list) ≡ next (fold_of (take s list)) c
fold_more list s c at = ap fold_of (take_more list s c at) ∙ fold-append next fresh (take s list) (c ∷ [])

pub obeys_rules : (list : List Command) → ObeysRules list
obeys_rules list = record {
  meets = λ s c at. meets_rules (fold_of (take s list)) c;
  overrides = λ s c at. subst (λ after. OverridesBroken (fold_of (take s list)) after c) (sym (fold_more list s c at)) (next_breaks (fold_of (take s list)) c);
}
