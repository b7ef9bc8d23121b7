-- What a rule's value rests on: the states of its controls alone.
use Rattle.std.proofs.Common.{◌≡◌, ℕ, refl, sym, ap, ◌∙◌, Bool, true, false, cond, List, [], ◌∷◌, ◌++◌, length, filter, find, Option, Some, None, arith, inl, inr}
use Rattle.std.specs.Prelude.{◌==◌, nat_le, not, unwrap_or}
use Rattle.std.specs.List.{count_by, list_all, list_any}
use Rattle.std.specs.Option.{option_map, option_or}
use Rattle.std.proofs.lemmas.Bool.{cases_Bool}
use Rattle.std.proofs.lemmas.Bool.Decides.{nat_tests}
use Rattle.std.proofs.lemmas.List.Folds.{find-append}
use Rattle.std.proofs.lemmas.List.Sums.{length-filter}
use Rattle.arc_ids.specs.declared.named_id.ControlId.{ControlId}
use Rattle.arc_data.specs.declared.reply.ControlItem.{ControlItem}
use Rattle.arc_data.specs.declared.rule.RuleConfig.{RuleConfig}
use Rattle.arc_data.specs.declared.rule.RuleKind.{RuleKind}
use Rattle.arc_data.specs.declared.rule.RuleKind.TheVariants.{And, Or, AtLeast}
use Rattle.arc_plain.specs.Rules.{is_met, value_of}

-- two states of the switches agree on these controls
abbrev pub Agree : (ControlId → Bool) → (ControlId → Bool) → List ControlId → Type 0
Agree on on' [] = Unit {0}
Agree on on' (c ∷ controls) = (on c ≡ on' c) × Agree on on' controls

-- so they do where they agree everywhere
pub agree_everywhere : (on on' : ControlId → Bool) (controls : List ControlId) → ((c : ControlId) → on c ≡ on' c) → Agree on on' controls
agree_everywhere on on' [] same = tt
agree_everywhere on on' (c ∷ controls) same = (same c, agree_everywhere on on' controls same)

agree_all : (on on' : ControlId → Bool) (controls : List ControlId) → Agree on on' controls → list_all on controls ≡ list_all on' controls
agree_all on on' [] agree = refl
agree_all on on' (c ∷ controls) agree =
    elim (cases_Bool (on' c)) [
      | inl holds ↦ rw (agree.0 ∙ holds) (rw holds (agree_all on on' controls agree.1))
      | inr fails ↦ rw (agree.0 ∙ fails) (rw fails refl)
    ]

agree_any : (on on' : ControlId → Bool) (controls : List ControlId) → Agree on on' controls → list_any on controls ≡ list_any on' controls
agree_any on on' [] agree = refl
agree_any on on' (c ∷ controls) agree =
    elim (cases_Bool (on' c)) [
      | inl holds ↦ rw (agree.0 ∙ holds) (rw holds refl)
      | inr fails ↦ rw (agree.0 ∙ fails) (rw fails (agree_any on on' controls agree.1))
    ]

agree_filter : (on on' : ControlId → Bool) (controls : List ControlId) → Agree on on' controls → filter on controls ≡ filter on' controls
agree_filter on on' [] agree = refl
agree_filter on on' (c ∷ controls) agree =
    elim (cases_Bool (on' c)) [
      | inl holds ↦ rw (agree.0 ∙ holds) (rw holds (ap (λ l. c ∷ l) (agree_filter on on' controls agree.1)))
      | inr fails ↦ rw (agree.0 ∙ fails) (rw fails (agree_filter on on' controls agree.1))
    ]

agree_count : (on on' : ControlId → Bool) (controls : List ControlId) → Agree on on' controls → count_by on controls ≡ count_by on' controls
agree_count on on' controls agree =
    sym (length-filter on controls) ∙ (ap length (agree_filter on on' controls agree) ∙ length-filter on' controls)

agree_met : (kind : RuleKind) (threshold : ℕ) (on on' : ControlId → Bool) (controls : List ControlId) → Agree on on' controls → is_met kind threshold controls on ≡ is_met kind threshold controls on'
agree_met And threshold on on' controls agree = agree_all on on' controls agree
agree_met Or threshold on on' controls agree = agree_any on on' controls agree
agree_met AtLeast threshold on on' controls agree = ap (λ n. nat_le threshold n) (agree_count on on' controls agree)

-- then a rule over these controls has one value in both
pub agree_value : (config : RuleConfig) (on on' : ControlId → Bool) (controls : List ControlId) → Agree on on' controls → value_of config controls on ≡ value_of config controls on'
agree_value config on on' controls agree =
    ap (λ b. cond config.inverted (not b) b) (agree_met config.kind config.threshold on on' controls agree)

-- ---- controls that are made or removed

-- whether a control is On, of these
abbrev pub on_in : List ControlItem → ControlId → Bool
on_in items c = unwrap_or (option_map (λ k. k.on) (find (λ k. k.control.0 == c.0) items)) false

off_behind : (o : Option ControlItem) (b : Bool) (new : ControlItem) → new.on ≡ false → unwrap_or (option_map (λ k. k.on) (option_or o (cond b (Some new) None))) false ≡ unwrap_or (option_map (λ k. k.on) o) false
off_behind (Some k) b new off = refl
off_behind None true new off = off
off_behind None false new off = refl

-- a control more that is Off
pub on_made : (items : List ControlItem) (new : ControlItem) (c : ControlId) → new.on ≡ false → on_in (items ++ new ∷ []) c ≡ on_in items c
on_made items new c off =
    ap (λ o. unwrap_or (option_map (λ k. k.on) o) false) (find-append (λ k. k.control.0 == c.0) items (new ∷ []))
    ∙ off_behind (find (λ k. k.control.0 == c.0) items) (new.control.0 == c.0) new off

-- what has another key than the one that is removed is found still
pub find_kept : {A : Type 0} (key : A → ℕ) (removed wanted : ℕ) (xs : List A) → (wanted == removed) ≡ false → find (λ x. key x == wanted) (filter (λ x. not (key x == removed)) xs) ≡ find (λ x. key x == wanted) xs
find_kept key removed wanted [] other = refl
find_kept key removed wanted (x ∷ xs) other =
    elim (cases_Bool (key x == removed)) [
      | inl goes ↦
          let differs : (key x == wanted) ≡ false = grind (arith, nat_tests) in
          rw goes (rw differs (find_kept key removed wanted xs other))
      | inr stays ↦ elim (cases_Bool (key x == wanted)) [
        | inl here ↦ rw stays (rw here refl)
        | inr there ↦ rw stays (rw there (find_kept key removed wanted xs other))
      ]
    ]

-- what has the key that is removed isn't
pub find_removed : {A : Type 0} (key : A → ℕ) (removed : ℕ) (xs : List A) → find (λ x. key x == removed) (filter (λ x. not (key x == removed)) xs) ≡ None
find_removed key removed [] = refl
find_removed key removed (x ∷ xs) =
    elim (cases_Bool (key x == removed)) [
      | inl goes ↦ rw goes (find_removed key removed xs)
      | inr stays ↦ rw stays (rw stays (find_removed key removed xs))
    ]
