-- Operations as fields: a number, and the fields of the operation of that number.
use Rattle.std.proofs.Common.{◌≡◌, ℕ, ◌+◌, ◌<◌, ◌==◌, Bool, true, false, cond, List, [], ◌∷◌, ◌++◌, length, drop, Option, Some, None, Result, Ok, refl, sym, ap, subst, ◌∙◌, append_assoc, add-zero, arith, lit<}
use Rattle.std.specs.Prelude.{IfSome}
use Rattle.std.specs.Str.{IsUtf8}
use Rattle.std.proofs.lemmas.Bool.{eqb-true}
use Rattle.arc_ids.specs.declared.named_id.ControlId.{ControlId}
use Rattle.arc_ids.specs.declared.named_id.PanelId.{PanelId}
use Rattle.arc_ids.specs.declared.named_id.ResourceId.{ResourceId}
use Rattle.arc_ids.specs.declared.named_id.RuleId.{RuleId}
use Rattle.arc_ids.specs.declared.named_id.ShiftId.{ShiftId}
use Rattle.arc_data.specs.declared.batch.Batch.{Batch}
use Rattle.arc_data.specs.declared.op.Op.{Op}
use Rattle.arc_data.specs.declared.op.Op.TheVariants.{CreateControlPanel, DeleteControlPanel, CreateRoutingControl, DeleteRoutingControl, ListRoutingControls, GetRoutingControlState, UpdateRoutingControlState, UpdateRoutingControlStates, CreateSafetyRule, UpdateSafetyRule, DeleteSafetyRule, ListSafetyRules, RegisterManagedResource, GetManagedResource, ListManagedResources, StartZonalShift, UpdateZonalShift, CancelZonalShift, ListZonalShifts, CreatePracticeRunConfiguration, UpdatePracticeRunConfiguration, DeletePracticeRunConfiguration, StartPracticeRun, CancelPracticeRun, UpdateZonalAutoshiftConfiguration, StartAutoshift, EndAutoshift, SetAlarmState}
use Rattle.arc_data.specs.declared.practice.PracticeChange.{PracticeChange}
use Rattle.arc_data.specs.declared.practice.PracticeConfig.{PracticeConfig}
use Rattle.arc_data.specs.declared.rule.RuleSpec.{RuleSpec}
use Rattle.arc_data.specs.declared.shift.Status.{Status}
use Rattle.arc_data.specs.Valid.{IsComment, IsWait, AreMinutes, IsValid}
use Rattle.arc_command.specs.Reader.{Reader, ◌>>=◌, pair, always, mapped, byte_at, switch_at, option_at, list_at, or_else}
use Rattle.arc_command.specs.Reading.{name_at, panel_at, control_at, rule_at, resource_at, shift_at, zone_at, comment_at, minutes_at, wait_at, gating_at, status_at, new_zone_at, single_at, batch_at, rule_spec_at, practice_config_at, practice_change_at, fields_at, create_routing_control_at, update_safety_rule_at, register_managed_resource_at, start_zonal_shift_at, update_zonal_shift_at, list_zonal_shifts_at, create_practice_run_configuration_at, update_practice_run_configuration_at, start_practice_run_at, update_zonal_autoshift_configuration_at, set_alarm_state_at, op_at}
use Rattle.arc_command.specs.Spelling.{text_bytes, switch_bytes, panel_bytes, control_bytes, rule_bytes, resource_bytes, shift_bytes, long_bytes, option_bytes, status_bytes, gating_bytes, texts_bytes, single_bytes, batch_bytes, rule_spec_bytes, practice_config_bytes, practice_change_bytes, tag_of, fields_of, op_bytes}
use Rattle.arc_command.specs.Typed.{IsTypedPanel, IsTypedControl, IsTypedRule, IsTypedResource, IsTypedShift, IsTypedZone, IsTypedOp}
use Rattle.arc_command.proofs.FieldLaws.{IsBytes, bind_ok, ok_is, Stands, Stands-then, Taken, Again, IsField, behind_text, pair_field, mapped_taken, mapped_again}
use Rattle.arc_command.proofs.ListLaws.{byte_field, IsTextOf}
use Rattle.arc_command.proofs.KindLaws.{panel_field, control_field, rule_field, resource_field, shift_field, switch_field, option_field, given_to, given_both, name_field, comment_field, zone_field, minutes_field, wait_field, status_field}
use Rattle.arc_command.proofs.BatchLaws.{AreSpellableZones, zones_field, IsSpellableBatch, single_field, batch_field}
use Rattle.arc_command.proofs.RuleLaws.{gating_field, IsSpellableRule, rule_spec_field}
use Rattle.arc_command.proofs.PracticeLaws.{regroup, IsSpellableConfig, IsSpellableChange, config_field, change_field}

abbrev done : {A : Type 0} → A → Result A ℕ
done x = Ok x

-- an operation that has a spelling
abbrev pub IsSpellableOp : Op → Type 0
IsSpellableOp op = IsValid op × IsTypedOp op

-- one of this number
abbrev IsOp : ℕ → Op → Type 0
IsOp tag op = (tag_of op ≡ tag) × IsSpellableOp op

-- the fields of an operation are one field, of which the operation is made
record IsMade {A : Type 0} (tag : ℕ) (f : A → Op) (read : Reader A) (t : A → List ℕ) (F : A → Type 0) : Type 0 where
  field : IsField read t F
  number : (x : A) → tag_of (f x) ≡ tag
  same : (x : A) → fields_of (f x) ≡ t x
  fits : (x : A) → F x → IsSpellableOp (f x)
  back : (x : A) → IsSpellableOp (f x) → F x

made_taken : {A : Type 0} {tag : ℕ} {f : A → Op} {read : Reader A} {t : A → List ℕ} {F : A → Type 0} → IsMade tag f read t F →
    Taken (mapped f read) fields_of (IsOp tag)
made_taken {tag = tag} {f = f} {read = read} {t = t} {F = F} made =
    mapped_taken f read t fields_of F (IsOp tag) made.field.taken (λ x g. made.same x) (λ x g. (made.number x, made.fits x g))

made_again : {A : Type 0} {tag : ℕ} {f : A → Op} {read : Reader A} {t : A → List ℕ} {F : A → Type 0} → IsMade tag f read t F →
    (x : A) → tag < 256 → fields_at tag ≡ Some (mapped f read) → (bytes : List ℕ) (at : ℕ) (rest : List ℕ) → IsSpellableOp (f x) →
    drop at bytes ≡ op_bytes (f x) ++ rest → op_at bytes at ≡ Ok (f x, at + length (op_bytes (f x)))
unfolding op_at
made_again {tag = tag} {f = f} {read = read} {t = t} {F = F} made x small known bytes at rest is e =
    let fields = fields_of (f x) in
    let split : drop at bytes ≡ tag ∷ (fields_of (f x) ++ rest) = e ∙ ap (λ (n : ℕ). n ∷ (fields_of (f x) ++ rest)) (made.number x) in
    let one = byte_field.again bytes at tag (fields_of (f x) ++ rest) small split in
    let next : drop (at + 1) bytes ≡ fields_of (f x) ++ rest = behind_text bytes at (tag ∷ []) (fields_of (f x) ++ rest) split in
    let two = mapped_again f read t F made.field.again bytes (at + 1) x rest (made.back x is) (next ∙ ap (λ (w : List ℕ). w ++ rest) (made.same x)) in
    rw (one, known, two) (ap (λ (n : ℕ). done (f x, n)) (omega (arith, ap length (made.same x))))

abbrev IsCommentText : List ℕ → Type 0
IsCommentText comment = IsComment comment × IsUtf8 comment

abbrev Anything : Bool → Type 0
Anything on = Unit {0}

abbrev OfStatus : Status → Type 0
OfStatus status = Unit {0}

any_status : (o : Option Status) → IfSome o OfStatus
any_status None = tt
any_status (Some status) = tt

-- ---- the operations

create_control_panel : IsMade 1 CreateControlPanel name_at
    text_bytes (IsTextOf 1 64)
unfolding fields_of
create_control_panel = record {
  field = name_field;
  number = λ x. refl;
  same = λ x. refl;
  fits = λ x f. ((f.0, f.1), f.2);
  back = λ x is. (is.0.0, is.0.1, is.1);
}

delete_control_panel : IsMade 2 DeleteControlPanel panel_at
    panel_bytes IsTypedPanel
unfolding fields_of
delete_control_panel = record {
  field = panel_field;
  number = λ x. refl;
  same = λ x. refl;
  fits = λ x f. (tt, f);
  back = λ x is. is.1;
}

create_routing_control : IsMade 3 (λ (x : List ℕ × PanelId). CreateRoutingControl x.0 x.1) (pair name_at (panel_at))
    (λ (x : List ℕ × PanelId). text_bytes x.0 ++ panel_bytes x.1) (λ (x : List ℕ × PanelId). IsTextOf 1 64 x.0 × IsTypedPanel x.1)
unfolding fields_of
create_routing_control = record {
  field = pair_field name_field (panel_field);
  number = λ x. refl;
  same = λ x. refl;
  fits = λ x f. ((f.0.0, f.0.1), (f.0.2, f.1));
  back = λ x is. ((is.0.0, is.0.1, is.1.0), is.1.1);
}

delete_routing_control : IsMade 4 DeleteRoutingControl control_at
    control_bytes IsTypedControl
unfolding fields_of
delete_routing_control = record {
  field = control_field;
  number = λ x. refl;
  same = λ x. refl;
  fits = λ x f. (tt, f);
  back = λ x is. is.1;
}

list_routing_controls : IsMade 5 ListRoutingControls (option_at panel_at)
    (option_bytes panel_bytes) (λ (x : Option PanelId). IfSome x IsTypedPanel)
unfolding fields_of
list_routing_controls = record {
  field = (option_field panel_field);
  number = λ x. refl;
  same = λ x. refl;
  fits = λ x f. (tt, f);
  back = λ x is. is.1;
}

get_routing_control_state : IsMade 6 GetRoutingControlState control_at
    control_bytes IsTypedControl
unfolding fields_of
get_routing_control_state = record {
  field = control_field;
  number = λ x. refl;
  same = λ x. refl;
  fits = λ x f. (tt, f);
  back = λ x is. is.1;
}

update_routing_control_state : IsMade 7 UpdateRoutingControlState single_at
    single_bytes (IsSpellableBatch 1)
unfolding fields_of
update_routing_control_state = record {
  field = single_field;
  number = λ x. refl;
  same = λ x. refl;
  fits = λ x f. f;
  back = λ x is. is;
}

update_routing_control_states : IsMade 8 UpdateRoutingControlStates batch_at
    batch_bytes (IsSpellableBatch 16)
unfolding fields_of
update_routing_control_states = record {
  field = batch_field;
  number = λ x. refl;
  same = λ x. refl;
  fits = λ x f. f;
  back = λ x is. is;
}

create_safety_rule : IsMade 9 CreateSafetyRule rule_spec_at
    rule_spec_bytes IsSpellableRule
unfolding fields_of
create_safety_rule = record {
  field = rule_spec_field;
  number = λ x. refl;
  same = λ x. refl;
  fits = λ x f. f;
  back = λ x is. is;
}

update_safety_rule : IsMade 10 (λ (x : Bool × (RuleId × (List ℕ × ℕ))). UpdateSafetyRule x.0 x.1.0 x.1.1.0 x.1.1.1) (pair gating_at (pair rule_at (pair name_at (wait_at))))
    (λ (x : Bool × (RuleId × (List ℕ × ℕ))). gating_bytes x.0 ++ (rule_bytes x.1.0 ++ (text_bytes x.1.1.0 ++ long_bytes x.1.1.1))) (λ (x : Bool × (RuleId × (List ℕ × ℕ))). Anything x.0 × (IsTypedRule x.1.0 × (IsTextOf 1 64 x.1.1.0 × IsWait x.1.1.1)))
unfolding fields_of
update_safety_rule = record {
  field = pair_field gating_field (pair_field rule_field (pair_field name_field (wait_field)));
  number = λ x. refl;
  same = λ x. regroup (gating_bytes x.0) (rule_bytes x.1.0) (text_bytes x.1.1.0) (long_bytes x.1.1.1);
  fits = λ x f. (((f.1.1.0.0, f.1.1.0.1), f.1.1.1), (f.1.0, f.1.1.0.2));
  back = λ x is. (tt, (is.1.0, ((is.0.0.0, is.0.0.1, is.1.1), is.0.1)));
}

delete_safety_rule : IsMade 11 DeleteSafetyRule rule_at
    rule_bytes IsTypedRule
unfolding fields_of
delete_safety_rule = record {
  field = rule_field;
  number = λ x. refl;
  same = λ x. refl;
  fits = λ x f. (tt, f);
  back = λ x is. is.1;
}

list_safety_rules : IsMade 12 ListSafetyRules panel_at
    panel_bytes IsTypedPanel
unfolding fields_of
list_safety_rules = record {
  field = panel_field;
  number = λ x. refl;
  same = λ x. refl;
  fits = λ x f. (tt, f);
  back = λ x is. is.1;
}

register_managed_resource : IsMade 13 (λ (x : List ℕ × List (List ℕ)). RegisterManagedResource x.0 x.1) (pair name_at ((list_at 1 6 new_zone_at)))
    (λ (x : List ℕ × List (List ℕ)). text_bytes x.0 ++ texts_bytes x.1) (λ (x : List ℕ × List (List ℕ)). IsTextOf 1 64 x.0 × AreSpellableZones x.1)
unfolding fields_of
register_managed_resource = record {
  field = pair_field name_field (zones_field);
  number = λ x. refl;
  same = λ x. refl;
  fits = λ x f. (((f.0.0, f.0.1), f.1.0), (f.0.2, f.1.1));
  back = λ x is. ((is.0.0.0, is.0.0.1, is.1.0), (is.0.1, is.1.1));
}

get_managed_resource : IsMade 14 GetManagedResource resource_at
    resource_bytes IsTypedResource
unfolding fields_of
get_managed_resource = record {
  field = resource_field;
  number = λ x. refl;
  same = λ x. refl;
  fits = λ x f. (tt, f);
  back = λ x is. is.1;
}

start_zonal_shift : IsMade 16 (λ (x : ResourceId × (List ℕ × (ℕ × List ℕ))). StartZonalShift x.0 x.1.0 x.1.1.0 x.1.1.1) (pair resource_at (pair zone_at (pair minutes_at (comment_at))))
    (λ (x : ResourceId × (List ℕ × (ℕ × List ℕ))). resource_bytes x.0 ++ (text_bytes x.1.0 ++ (long_bytes x.1.1.0 ++ text_bytes x.1.1.1))) (λ (x : ResourceId × (List ℕ × (ℕ × List ℕ))). IsTypedResource x.0 × (IsTypedZone x.1.0 × (AreMinutes x.1.1.0 × IsCommentText x.1.1.1)))
unfolding fields_of
start_zonal_shift = record {
  field = pair_field resource_field (pair_field zone_field (pair_field minutes_field (comment_field)));
  number = λ x. refl;
  same = λ x. regroup (resource_bytes x.0) (text_bytes x.1.0) (long_bytes x.1.1.0) (text_bytes x.1.1.1);
  fits = λ x f. ((f.1.1.0, f.1.1.1.0), (f.0, f.1.0, f.1.1.1.1));
  back = λ x is. (is.1.0, (is.1.1, (is.0.0, (is.0.1, is.1.2))));
}

update_zonal_shift : IsMade 17 (λ (x : ShiftId × (Option (List ℕ) × Option ℕ)). UpdateZonalShift x.0 x.1.0 x.1.1) (pair shift_at (pair (option_at comment_at) ((option_at minutes_at))))
    (λ (x : ShiftId × (Option (List ℕ) × Option ℕ)). shift_bytes x.0 ++ ((option_bytes text_bytes) x.1.0 ++ (option_bytes long_bytes) x.1.1)) (λ (x : ShiftId × (Option (List ℕ) × Option ℕ)). IsTypedShift x.0 × (IfSome x.1.0 IsCommentText × IfSome x.1.1 AreMinutes))
unfolding fields_of
update_zonal_shift = record {
  field = pair_field shift_field (pair_field (option_field comment_field) ((option_field minutes_field)));
  number = λ x. refl;
  same = λ x. append_assoc (shift_bytes x.0) ((option_bytes text_bytes) x.1.0) ((option_bytes long_bytes) x.1.1);
  fits = λ x f. ((given_to IsCommentText IsComment (λ y g. g.0) x.1.0 f.1.0, f.1.1), (f.0, given_to IsCommentText IsUtf8 (λ y g. g.1) x.1.0 f.1.0));
  back = λ x is. (is.1.0, (given_both IsComment IsUtf8 IsCommentText (λ y a b. (a, b)) x.1.0 is.0.0 is.1.1, is.0.1));
}

cancel_zonal_shift : IsMade 18 CancelZonalShift shift_at
    shift_bytes IsTypedShift
unfolding fields_of
cancel_zonal_shift = record {
  field = shift_field;
  number = λ x. refl;
  same = λ x. refl;
  fits = λ x f. (tt, f);
  back = λ x is. is.1;
}

list_zonal_shifts : IsMade 19 (λ (x : Option ResourceId × Option Status). ListZonalShifts x.0 x.1) (pair (option_at resource_at) ((option_at status_at)))
    (λ (x : Option ResourceId × Option Status). (option_bytes resource_bytes) x.0 ++ (option_bytes status_bytes) x.1) (λ (x : Option ResourceId × Option Status). IfSome x.0 IsTypedResource × IfSome x.1 OfStatus)
unfolding fields_of
list_zonal_shifts = record {
  field = pair_field (option_field resource_field) ((option_field status_field));
  number = λ x. refl;
  same = λ x. refl;
  fits = λ x f. (tt, f.0);
  back = λ x is. (is.1, any_status x.1);
}

create_practice_run_configuration : IsMade 20 (λ (x : ResourceId × PracticeConfig). CreatePracticeRunConfiguration x.0 x.1) (pair resource_at (practice_config_at))
    (λ (x : ResourceId × PracticeConfig). resource_bytes x.0 ++ practice_config_bytes x.1) (λ (x : ResourceId × PracticeConfig). IsTypedResource x.0 × IsSpellableConfig x.1)
unfolding fields_of
create_practice_run_configuration = record {
  field = pair_field resource_field (config_field);
  number = λ x. refl;
  same = λ x. refl;
  fits = λ x f. (f.1.0, (f.0, f.1.1));
  back = λ x is. (is.1.0, (is.0, is.1.1));
}

update_practice_run_configuration : IsMade 21 (λ (x : ResourceId × PracticeChange). UpdatePracticeRunConfiguration x.0 x.1) (pair resource_at (practice_change_at))
    (λ (x : ResourceId × PracticeChange). resource_bytes x.0 ++ practice_change_bytes x.1) (λ (x : ResourceId × PracticeChange). IsTypedResource x.0 × IsSpellableChange x.1)
unfolding fields_of
update_practice_run_configuration = record {
  field = pair_field resource_field (change_field);
  number = λ x. refl;
  same = λ x. refl;
  fits = λ x f. (f.1.0, (f.0, f.1.1));
  back = λ x is. (is.1.0, (is.0, is.1.1));
}

delete_practice_run_configuration : IsMade 22 DeletePracticeRunConfiguration resource_at
    resource_bytes IsTypedResource
unfolding fields_of
delete_practice_run_configuration = record {
  field = resource_field;
  number = λ x. refl;
  same = λ x. refl;
  fits = λ x f. (tt, f);
  back = λ x is. is.1;
}

start_practice_run : IsMade 23 (λ (x : ResourceId × (List ℕ × List ℕ)). StartPracticeRun x.0 x.1.0 x.1.1) (pair resource_at (pair zone_at (comment_at)))
    (λ (x : ResourceId × (List ℕ × List ℕ)). resource_bytes x.0 ++ (text_bytes x.1.0 ++ text_bytes x.1.1)) (λ (x : ResourceId × (List ℕ × List ℕ)). IsTypedResource x.0 × (IsTypedZone x.1.0 × IsCommentText x.1.1))
unfolding fields_of
start_practice_run = record {
  field = pair_field resource_field (pair_field zone_field (comment_field));
  number = λ x. refl;
  same = λ x. append_assoc (resource_bytes x.0) (text_bytes x.1.0) (text_bytes x.1.1);
  fits = λ x f. (f.1.1.0, (f.0, f.1.0, f.1.1.1));
  back = λ x is. (is.1.0, (is.1.1, (is.0, is.1.2)));
}

cancel_practice_run : IsMade 24 CancelPracticeRun shift_at
    shift_bytes IsTypedShift
unfolding fields_of
cancel_practice_run = record {
  field = shift_field;
  number = λ x. refl;
  same = λ x. refl;
  fits = λ x f. (tt, f);
  back = λ x is. is.1;
}

update_zonal_autoshift_configuration : IsMade 25 (λ (x : ResourceId × Bool). UpdateZonalAutoshiftConfiguration x.0 x.1) (pair resource_at (switch_at))
    (λ (x : ResourceId × Bool). resource_bytes x.0 ++ switch_bytes x.1) (λ (x : ResourceId × Bool). IsTypedResource x.0 × Anything x.1)
unfolding fields_of
update_zonal_autoshift_configuration = record {
  field = pair_field resource_field (switch_field);
  number = λ x. refl;
  same = λ x. refl;
  fits = λ x f. (tt, f.0);
  back = λ x is. (is.1, tt);
}

start_autoshift : IsMade 26 StartAutoshift zone_at
    text_bytes IsTypedZone
unfolding fields_of
start_autoshift = record {
  field = zone_field;
  number = λ x. refl;
  same = λ x. refl;
  fits = λ x f. (tt, f);
  back = λ x is. is.1;
}

end_autoshift : IsMade 27 EndAutoshift zone_at
    text_bytes IsTypedZone
unfolding fields_of
end_autoshift = record {
  field = zone_field;
  number = λ x. refl;
  same = λ x. refl;
  fits = λ x f. (tt, f);
  back = λ x is. is.1;
}

set_alarm_state : IsMade 28 (λ (x : List ℕ × Bool). SetAlarmState x.0 x.1) (pair name_at (switch_at))
    (λ (x : List ℕ × Bool). text_bytes x.0 ++ switch_bytes x.1) (λ (x : List ℕ × Bool). IsTextOf 1 64 x.0 × Anything x.1)
unfolding fields_of
set_alarm_state = record {
  field = pair_field name_field (switch_field);
  number = λ x. refl;
  same = λ x. refl;
  fits = λ x f. ((f.0.0, f.0.1), f.0.2);
  back = λ x is. ((is.0.0, is.0.1, is.1), tt);
}

list_managed_resources : Taken (always ListManagedResources) fields_of (IsOp 15)
unfolding fields_of
list_managed_resources bytes at op after are e =
    subst (λ (y : Op × ℕ). Stands bytes at (fields_of y.0) y.1 × IsOp 15 y.0) (ok_is (ListManagedResources, at) (op, after) e)
    (record { parts = refl; place = sym (add-zero at) }, (refl, (tt, tt)))

-- ---- the choice by the number

-- what is read behind this number stands there
record Knows (tag : ℕ) (o : Option (Reader Op)) : Type 0 where
  known : IfSome o (λ read. Taken read fields_of (IsOp tag))

chosen : (b : Bool) (tag k : ℕ) (read : Reader Op) (others : Option (Reader Op)) → (b ≡ true → tag ≡ k) →
    Taken read fields_of (IsOp k) → Knows tag others → Knows tag (cond b (Some read) others)
chosen true tag k read others same taken rest = record { known = subst (λ (n : ℕ). Taken read fields_of (IsOp n)) (sym (same refl)) taken }
chosen false tag k read others same taken rest = rest

choose : (tag k : ℕ) {read : Reader Op} {others : Option (Reader Op)} → Taken read fields_of (IsOp k) → Knows tag others →
    Knows tag (cond (tag == k) (Some read) others)
choose tag k {read = read} {others = others} taken rest = chosen (tag == k) tag k read others (eqb-true tag k) taken rest

knows : (tag : ℕ) → Knows tag (fields_at tag)
unfolding fields_at create_routing_control_at update_safety_rule_at register_managed_resource_at start_zonal_shift_at update_zonal_shift_at list_zonal_shifts_at create_practice_run_configuration_at update_practice_run_configuration_at start_practice_run_at update_zonal_autoshift_configuration_at set_alarm_state_at
knows tag =
    choose tag 1 (made_taken create_control_panel) (
    choose tag 2 (made_taken delete_control_panel) (
    choose tag 3 (made_taken create_routing_control) (
    choose tag 4 (made_taken delete_routing_control) (
    choose tag 5 (made_taken list_routing_controls) (
    choose tag 6 (made_taken get_routing_control_state) (
    choose tag 7 (made_taken update_routing_control_state) (
    choose tag 8 (made_taken update_routing_control_states) (
    choose tag 9 (made_taken create_safety_rule) (
    choose tag 10 (made_taken update_safety_rule) (
    choose tag 11 (made_taken delete_safety_rule) (
    choose tag 12 (made_taken list_safety_rules) (
    choose tag 13 (made_taken register_managed_resource) (
    choose tag 14 (made_taken get_managed_resource) (
    choose tag 15 list_managed_resources (
    choose tag 16 (made_taken start_zonal_shift) (
    choose tag 17 (made_taken update_zonal_shift) (
    choose tag 18 (made_taken cancel_zonal_shift) (
    choose tag 19 (made_taken list_zonal_shifts) (
    choose tag 20 (made_taken create_practice_run_configuration) (
    choose tag 21 (made_taken update_practice_run_configuration) (
    choose tag 22 (made_taken delete_practice_run_configuration) (
    choose tag 23 (made_taken start_practice_run) (
    choose tag 24 (made_taken cancel_practice_run) (
    choose tag 25 (made_taken update_zonal_autoshift_configuration) (
    choose tag 26 (made_taken start_autoshift) (
    choose tag 27 (made_taken end_autoshift) (
    choose tag 28 (made_taken set_alarm_state) (
    record { known = tt }))))))))))))))))))))))))))))

behind : (tag : ℕ) (o : Option (Reader Op)) → Knows tag o → (place : ℕ) (bytes : List ℕ) (at : ℕ) (op : Op) (after : ℕ) → IsBytes bytes →
    or_else place o bytes at ≡ done (op, after) → Stands bytes at (fields_of op) after × IsOp tag op
behind tag None knows place bytes at op after are e = absurd cc
behind tag (Some read) knows place bytes at op after are e = knows.known bytes at op after are e

op_taken : Taken op_at op_bytes IsSpellableOp
unfolding op_at
op_taken bytes at op after are e =
    let a = bind_ok (byte_at bytes at) (λ (b : ℕ × ℕ). or_else at (fields_at b.0) bytes b.1) (op, after) e in
    let s = byte_field.taken bytes at a.0.0 a.0.1 are a.1 in
    let z = behind a.0.0 (fields_at a.0.0) (knows a.0.0) at bytes a.0.1 op after are a.2 in
    let both = Stands-then bytes at (a.0.0 ∷ []) a.0.1 (fields_of op) after s.0 z.0 in
    (subst (λ (b : ℕ). Stands bytes at (b ∷ fields_of op) after) (sym z.1.0) both, z.1.1)

op_again : Again op_at op_bytes IsSpellableOp
unfolding op_at fields_of fields_at create_routing_control_at update_safety_rule_at register_managed_resource_at start_zonal_shift_at update_zonal_shift_at list_zonal_shifts_at create_practice_run_configuration_at update_practice_run_configuration_at start_practice_run_at update_zonal_autoshift_configuration_at set_alarm_state_at
op_again bytes at (CreateControlPanel name) rest is e = made_again create_control_panel name (lit< tt) refl bytes at rest is e
op_again bytes at (DeleteControlPanel panel) rest is e = made_again delete_control_panel panel (lit< tt) refl bytes at rest is e
op_again bytes at (CreateRoutingControl name panel) rest is e = made_again create_routing_control (name, panel) (lit< tt) refl bytes at rest is e
op_again bytes at (DeleteRoutingControl control) rest is e = made_again delete_routing_control control (lit< tt) refl bytes at rest is e
op_again bytes at (ListRoutingControls panel) rest is e = made_again list_routing_controls panel (lit< tt) refl bytes at rest is e
op_again bytes at (GetRoutingControlState control) rest is e = made_again get_routing_control_state control (lit< tt) refl bytes at rest is e
op_again bytes at (UpdateRoutingControlState batch) rest is e = made_again update_routing_control_state batch (lit< tt) refl bytes at rest is e
op_again bytes at (UpdateRoutingControlStates batch) rest is e = made_again update_routing_control_states batch (lit< tt) refl bytes at rest is e
op_again bytes at (CreateSafetyRule spec) rest is e = made_again create_safety_rule spec (lit< tt) refl bytes at rest is e
op_again bytes at (UpdateSafetyRule gating rule name wait) rest is e = made_again update_safety_rule (gating, (rule, (name, wait))) (lit< tt) refl bytes at rest is e
op_again bytes at (DeleteSafetyRule rule) rest is e = made_again delete_safety_rule rule (lit< tt) refl bytes at rest is e
op_again bytes at (ListSafetyRules panel) rest is e = made_again list_safety_rules panel (lit< tt) refl bytes at rest is e
op_again bytes at (RegisterManagedResource name zones) rest is e = made_again register_managed_resource (name, zones) (lit< tt) refl bytes at rest is e
op_again bytes at (GetManagedResource resource) rest is e = made_again get_managed_resource resource (lit< tt) refl bytes at rest is e
op_again bytes at ListManagedResources rest is e = rw (byte_field.again bytes at 15 rest (lit< tt) e) refl
op_again bytes at (StartZonalShift resource zone minutes comment) rest is e = made_again start_zonal_shift (resource, (zone, (minutes, comment))) (lit< tt) refl bytes at rest is e
op_again bytes at (UpdateZonalShift shift comment minutes) rest is e = made_again update_zonal_shift (shift, (comment, minutes)) (lit< tt) refl bytes at rest is e
op_again bytes at (CancelZonalShift shift) rest is e = made_again cancel_zonal_shift shift (lit< tt) refl bytes at rest is e
op_again bytes at (ListZonalShifts resource status) rest is e = made_again list_zonal_shifts (resource, status) (lit< tt) refl bytes at rest is e
op_again bytes at (CreatePracticeRunConfiguration resource config) rest is e = made_again create_practice_run_configuration (resource, config) (lit< tt) refl bytes at rest is e
op_again bytes at (UpdatePracticeRunConfiguration resource change) rest is e = made_again update_practice_run_configuration (resource, change) (lit< tt) refl bytes at rest is e
op_again bytes at (DeletePracticeRunConfiguration resource) rest is e = made_again delete_practice_run_configuration resource (lit< tt) refl bytes at rest is e
op_again bytes at (StartPracticeRun resource zone comment) rest is e = made_again start_practice_run (resource, (zone, comment)) (lit< tt) refl bytes at rest is e
op_again bytes at (CancelPracticeRun shift) rest is e = made_again cancel_practice_run shift (lit< tt) refl bytes at rest is e
op_again bytes at (UpdateZonalAutoshiftConfiguration resource on) rest is e = made_again update_zonal_autoshift_configuration (resource, on) (lit< tt) refl bytes at rest is e
op_again bytes at (StartAutoshift zone) rest is e = made_again start_autoshift zone (lit< tt) refl bytes at rest is e
op_again bytes at (EndAutoshift zone) rest is e = made_again end_autoshift zone (lit< tt) refl bytes at rest is e
op_again bytes at (SetAlarmState name on) rest is e = made_again set_alarm_state (name, on) (lit< tt) refl bytes at rest is e

pub op_field : IsField op_at op_bytes IsSpellableOp
op_field = record { taken = op_taken; again = op_again }
