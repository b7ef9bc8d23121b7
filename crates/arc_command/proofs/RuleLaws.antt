-- Safety rules as fields.
use Rattle.std.proofs.Common.{◌≡◌, ℕ, zero, suc, ◌+◌, ◌^◌, ◌<◌, ◌≤◌, ◌==◌, ◌&&◌, Bool, true, false, nat_le, List, [], ◌∷◌, ◌++◌, length, Option, Some, None, Result, Ok, is_some, refl, sym, ap, subst, ◌∙◌, append_assoc, add-zero, arith, lit<}
use Rattle.std.specs.Prelude.{IfSome}
use Rattle.std.specs.Str.{IsUtf8}
use Rattle.std.specs.List.{AllByRecursion}
use Rattle.std.specs.Int.{w16}
use Rattle.std.proofs.lemmas.Bool.{leb-true, le-leb, eqb-true, and_from}
use Rattle.std.proofs.lemmas.Bool.Decides.{Decides-eqb}
use Rattle.std.proofs.lemmas.List.{append-nil}
use Rattle.arc_bytes.specs.Numbers.{number_bytes}
use Rattle.arc_ids.specs.declared.named_id.ControlId.{ControlId}
use Rattle.arc_ids.specs.declared.named_id.PanelId.{PanelId}
use Rattle.arc_data.specs.declared.rule.RuleConfig.{RuleConfig}
use Rattle.arc_data.specs.declared.rule.RuleKind.{RuleKind}
use Rattle.arc_data.specs.declared.rule.RuleKind.TheVariants.{And, Or, AtLeast}
use Rattle.arc_data.specs.declared.rule.RuleSpec.{RuleSpec}
use Rattle.arc_data.specs.Valid.{IsName, IsWait, IsThreshold, IsRule, AreControls}
use Rattle.arc_command.specs.Reader.{Reader, pair, depends, always, mapped, within, uint_at, switch_at}
use Rattle.arc_command.specs.Reading.{gating_at, rule_kind_of, rule_kind_at, fits_threshold, rule_config_at, controls_at, targets_at, rule_spec_at, name_at, panel_at, wait_at}
use Rattle.arc_command.specs.Spelling.{text_bytes, panel_bytes, long_bytes, switch_bytes, gating_bytes, rule_kind_bytes, rule_config_bytes, controls_bytes, targets_bytes, rule_parts_bytes, rule_spec_bytes}
use Rattle.arc_command.specs.Typed.{IsTypedControl, IsTypedPanel, IsTypedSpec}
use Rattle.arc_command.proofs.FieldLaws.{ok_is, Stands, Taken, Again, IsField, depends_field, pair_field, mapped_taken, mapped_again, mapped_field, refit, within_field}
use Rattle.arc_command.proofs.ListLaws.{byte_field, both_tests, IsTextOf}
use Rattle.arc_command.proofs.KindLaws.{uint16, Whatever, switch_field, panel_field, name_field, wait_field, given_both, given_to}
use Rattle.arc_command.proofs.BatchLaws.{AreSpellableControls, controls_field}

abbrev done : {A : Type 0} → A → Result A ℕ
done x = Ok x

-- ---- the kinds

abbrev gating_number : Bool → ℕ
gating_number false = 1
gating_number true = 2

abbrev IsGatingNumber : ℕ → Type 0
IsGatingNumber b = (b < 256) × ((nat_le 1 b && nat_le b 2) ≡ true)

gating_texts : (b : ℕ) → IsGatingNumber b → gating_bytes (b == 2) ≡ b ∷ []
gating_texts zero f = absurd (let no = f.1 in cc)
gating_texts (suc zero) f = refl
gating_texts (suc (suc zero)) f = refl
gating_texts (suc (suc (suc b))) f = let two = both_tests (nat_le 1 (suc (suc (suc b)))) (nat_le (suc (suc (suc b))) 2) f.1 in let le = leb-true _ _ two.1 in absurd (omega arith)

gating_back : (gating : Bool) → Unit {0} → ((gating_number gating == 2) ≡ gating) × IsGatingNumber (gating_number gating)
gating_back false u = (refl, (lit< tt, refl))
gating_back true u = (refl, (lit< tt, refl))

pub gating_field : IsField gating_at gating_bytes (λ (gating : Bool). Whatever gating)
unfolding gating_at
gating_field = mapped_field (λ (b : ℕ). b == 2) gating_number gating_bytes (λ (gating : Bool). Whatever gating)
    (within_field (λ (b : ℕ). nat_le 1 b && nat_le b 2) byte_field) gating_texts (λ x f. tt) gating_back

abbrev kind_number : RuleKind → ℕ
kind_number And = 1
kind_number Or = 2
kind_number AtLeast = 3

abbrev IsKindNumber : ℕ → Type 0
IsKindNumber b = (b < 256) × ((nat_le 1 b && nat_le b 3) ≡ true)

kind_texts : (b : ℕ) → IsKindNumber b → rule_kind_bytes (rule_kind_of b) ≡ b ∷ []
kind_texts zero f = absurd (let no = f.1 in cc)
kind_texts (suc zero) f = refl
kind_texts (suc (suc zero)) f = refl
kind_texts (suc (suc (suc zero))) f = refl
kind_texts (suc (suc (suc (suc b)))) f = let two = both_tests (nat_le 1 (suc (suc (suc (suc b))))) (nat_le (suc (suc (suc (suc b)))) 3) f.1 in let le = leb-true _ _ two.1 in absurd (omega arith)

kind_back : (kind : RuleKind) → Unit {0} → (rule_kind_of (kind_number kind) ≡ kind) × IsKindNumber (kind_number kind)
kind_back And u = (refl, (lit< tt, refl))
kind_back Or u = (refl, (lit< tt, refl))
kind_back AtLeast u = (refl, (lit< tt, refl))

rule_kind_field : IsField rule_kind_at rule_kind_bytes (λ (kind : RuleKind). Whatever kind)
unfolding rule_kind_at
rule_kind_field = mapped_field rule_kind_of kind_number rule_kind_bytes (λ (kind : RuleKind). Whatever kind)
    (within_field (λ (b : ℕ). nat_le 1 b && nat_le b 3) byte_field) kind_texts (λ x f. tt) kind_back

-- ---- the threshold

threshold_fits : (kind : RuleKind) (controls threshold : ℕ) → fits_threshold kind controls threshold ≡ true → IsThreshold kind threshold controls
threshold_fits And controls threshold e = (Decides-eqb threshold 0).0 e
threshold_fits Or controls threshold e = (Decides-eqb threshold 0).0 e
threshold_fits AtLeast controls threshold e =
    let two = both_tests (nat_le 1 threshold) (nat_le threshold controls) e in (leb-true _ _ two.0, leb-true _ _ two.1)

fits_again : (kind : RuleKind) (controls threshold : ℕ) → controls < 2 ^ 16 → IsThreshold kind threshold controls →
    (threshold < 2 ^ 16) × (fits_threshold kind controls threshold ≡ true)
fits_again And controls threshold small is = (omega (arith, is), (Decides-eqb threshold 0).1 is)
fits_again Or controls threshold small is = (omega (arith, is), (Decides-eqb threshold 0).1 is)
fits_again AtLeast controls threshold small is = (omega (arith, is.1, small), and_from _ _ (le-leb _ _ is.0) (le-leb _ _ is.1))

threshold_field : (kind : RuleKind) (controls : ℕ) → controls < 2 ^ 16 →
    IsField (within (fits_threshold kind controls) (uint_at w16)) (number_bytes w16) (λ (threshold : ℕ). IsThreshold kind threshold controls)
threshold_field kind controls small = refit (λ (threshold : ℕ). IsThreshold kind threshold controls) (within_field (fits_threshold kind controls) uint16)
    (λ threshold f. threshold_fits kind controls threshold f.1) (λ threshold is. fits_again kind controls threshold small is)

abbrev IsConfigOver : ℕ → RuleConfig → Type 0
IsConfigOver controls config = IsThreshold config.kind config.threshold controls

config_field : (controls : ℕ) → controls < 2 ^ 16 → IsField (rule_config_at controls) rule_config_bytes (IsConfigOver controls)
unfolding rule_config_at rule_config_bytes
config_field controls small = mapped_field (λ (x : RuleKind × (ℕ × Bool)). record { kind = x.0; threshold = x.1.0; inverted = x.1.1 })
    (λ (c : RuleConfig). (c.kind, (c.threshold, c.inverted))) rule_config_bytes (IsConfigOver controls)
    (depends_field rule_kind_field (λ kind f. pair_field (threshold_field kind controls small) switch_field))
    (λ x f. append_assoc (rule_kind_bytes x.0) (number_bytes w16 x.1.0) (switch_bytes x.1.1)) (λ x f. f.1.0) (λ y is. (refl, (tt, (is, tt))))

-- ---- the targets

abbrev AreTargets : Bool → Option (List ControlId) → Type 0
AreTargets gating targets = (is_some targets ≡ gating) × IfSome targets AreSpellableControls

-- a value that has no bytes
always_field : {A : Type 0} (x : A) (t : A → List ℕ) → t x ≡ [] → IsField (always x) t (λ (y : A). x ≡ y)
always_field {A = A} x t none = record {
  taken = λ bytes at y after are e.
      subst (λ (z : A × ℕ). Stands bytes at (t z.0) z.1 × (x ≡ z.0)) (ok_is (x, at) (y, after) e) (rw none (record { parts = refl; place = sym (add-zero at) }), refl);
  again = λ bytes at y rest same e.
      ap (λ (z : A). done (z, at)) same ∙ ap (λ (n : ℕ). done (y, n)) (sym (add-zero at) ∙ ap (λ (w : List ℕ). at + length w) (sym none ∙ ap t same));
}

none_fits : (o : Option (List ControlId)) → AreTargets false o → None ≡ o
none_fits None f = refl
none_fits (Some x) f = absurd (let no = f.0 in cc)

-- the targets of a gate
abbrev targets_or : List ControlId → Option (List ControlId) → List ControlId
targets_or other None = other
targets_or other (Some x) = x

given_back : (o : Option (List ControlId)) → AreTargets true o → (Some (targets_or [] o) ≡ o) × AreSpellableControls (targets_or [] o)
given_back None f = absurd (let no = f.0 in cc)
given_back (Some x) f = (refl, f.1)

targets_field : (gating : Bool) → IsField (targets_at gating) targets_bytes (AreTargets gating)
unfolding targets_at
targets_field false = refit (AreTargets false) (always_field None targets_bytes refl)
    (λ o same. subst (λ z. AreTargets false z) same (refl, tt)) none_fits
targets_field true = mapped_field Some (targets_or []) targets_bytes (AreTargets true) controls_field (λ x f. refl) (λ x f. (refl, f)) given_back

-- ---- a whole rule

abbrev Parts : Type 0
Parts = List ℕ × (PanelId × (List ControlId × (Option (List ControlId) × (RuleConfig × ℕ))))

abbrev AreParts : Bool → Parts → Type 0
AreParts gating x = IsTextOf 1 64 x.0 × (IsTypedPanel x.1.0 × (AreSpellableControls x.1.1.0 × (AreTargets gating x.1.1.1.0
    × (IsConfigOver (length x.1.1.0) x.1.1.1.1.0 × IsWait x.1.1.1.1.1))))

abbrev parts_text : Parts → List ℕ
parts_text x = text_bytes x.0 ++ (panel_bytes x.1.0 ++ (controls_bytes x.1.1.0 ++ (targets_bytes x.1.1.1.0 ++ (rule_config_bytes x.1.1.1.1.0 ++ long_bytes x.1.1.1.1.1))))

parts_field : (gating : Bool) → IsField (pair name_at (pair panel_at (depends controls_at (λ controls. pair (targets_at gating) (pair (rule_config_at (length controls)) wait_at))))) parts_text (AreParts gating)
parts_field gating = pair_field name_field (pair_field panel_field (depends_field controls_field
    (λ controls f. pair_field (targets_field gating) (pair_field (config_field (length controls) (omega (arith, f.0.0.1))) wait_field))))

abbrev spec_of : Bool × Parts → RuleSpec
spec_of x = record {
  name = x.1.0;
  panel = x.1.1.0;
  controls = x.1.1.1.0;
  targets = x.1.1.1.1.0;
  config = x.1.1.1.1.1.0;
  wait_ms = x.1.1.1.1.1.1;
}

abbrev parts_of_spec : RuleSpec → Bool × Parts
parts_of_spec s = (is_some s.targets, (s.name, (s.panel, (s.controls, (s.targets, (s.config, s.wait_ms))))))

abbrev pub IsSpellableRule : RuleSpec → Type 0
IsSpellableRule spec = IsRule spec × IsTypedSpec spec

spec_fits : (x : Bool × Parts) → Whatever x.0 × AreParts x.0 x.1 → IsSpellableRule (spec_of x)
spec_fits x f = (
  record {
    name = (f.1.0.0, f.1.0.1);
    controls = f.1.1.1.0.0;
    targets = given_to AreSpellableControls AreControls (λ y g. g.0) x.1.1.1.1.0 f.1.1.1.1.0.1;
    threshold = f.1.1.1.1.1.0;
    wait = f.1.1.1.1.1.1;
  },
  record {
    name = f.1.0.2;
    panel = f.1.1.0;
    controls = f.1.1.1.0.1;
    targets = given_to AreSpellableControls (AllByRecursion IsTypedControl) (λ y g. g.1) x.1.1.1.1.0 f.1.1.1.1.0.1;
  },
)

spec_back : (s : RuleSpec) → IsSpellableRule s → (spec_of (parts_of_spec s) ≡ s) × (Whatever (is_some s.targets) × AreParts (is_some s.targets) (parts_of_spec s).1)
spec_back s is =
    let valid : IsRule s = is.0 in
    let typed : IsTypedSpec s = is.1 in
    let targets = given_both AreControls (AllByRecursion IsTypedControl) AreSpellableControls (λ y a b. (a, b)) s.targets valid.targets typed.targets in
    (refl, (tt, ((valid.name.0, valid.name.1, typed.name), (typed.panel, ((valid.controls, typed.controls), ((refl, targets), (valid.threshold, valid.wait)))))))

-- pieces in two groups
regroup_six : (a b c d e f g : List ℕ) → ((a ++ b) ++ c) ++ (((d ++ e) ++ f) ++ g) ≡ a ++ (b ++ (c ++ (d ++ (e ++ (f ++ g)))))
regroup_six a b c d e f g =
    append_assoc (a ++ b) c (((d ++ e) ++ f) ++ g) ∙ append_assoc a b (c ++ (((d ++ e) ++ f) ++ g))
    ∙ ap (λ (w : List ℕ). a ++ (b ++ (c ++ w))) (append_assoc (d ++ e) f g ∙ append_assoc d e (f ++ g))

spec_texts : (x : Bool × Parts) → Whatever x.0 × AreParts x.0 x.1 → rule_spec_bytes (spec_of x) ≡ gating_bytes x.0 ++ parts_text x.1
unfolding rule_spec_bytes rule_parts_bytes
spec_texts x f =
    regroup_six (gating_bytes (is_some x.1.1.1.1.0)) (text_bytes x.1.0) (panel_bytes x.1.1.0) (controls_bytes x.1.1.1.0) (targets_bytes x.1.1.1.1.0) (rule_config_bytes x.1.1.1.1.1.0) (long_bytes x.1.1.1.1.1.1)
    ∙ ap (λ (gating : Bool). gating_bytes gating ++ parts_text x.1) f.1.1.1.1.0.0

pub rule_spec_field : IsField rule_spec_at rule_spec_bytes IsSpellableRule
unfolding rule_spec_at
rule_spec_field = mapped_field spec_of parts_of_spec rule_spec_bytes IsSpellableRule (depends_field gating_field (λ gating f. parts_field gating)) spec_texts spec_fits spec_back
