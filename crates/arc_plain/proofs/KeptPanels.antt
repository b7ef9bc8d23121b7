-- Identifiers, names and limits of panels and controls go on to hold.
use Rattle.std.proofs.Common.{◌≡◌, ◌≢◌, ℕ, ◌+◌, ◌<◌, ◌≤◌, ◌==◌, ◌&&◌, Bool, true, false, cond, List, [], ◌∷◌, ◌++◌, length, get_or, filter, find, not, nat_lt, None, bytes_eq, refl, sym, arith, ◌∙◌}
use Rattle.std.proofs.lemmas.Bool.Decides.{Decides-and, Decides-eqb, nat_tests, not_from_Decides}
use Rattle.std.proofs.lemmas.Slice.Eq.{bytes_eq-Decides}
use Rattle.std.proofs.lemmas.List.{length-append}
use Rattle.std.proofs.lemmas.List.Elements.{All-filter, All-push}
use Rattle.std.proofs.lemmas.List.Kept.{AllPairs-filter}
use Rattle.std.proofs.lemmas.List.Quantifiers.{all_pairs_push}
use Rattle.arc_ids.specs.declared.named_id.ControlId.{ControlId}
use Rattle.arc_ids.specs.declared.named_id.PanelId.{PanelId}
use Rattle.arc_data.specs.declared.batch.Entry.{Entry}
use Rattle.arc_data.specs.declared.reply.ControlItem.{ControlItem}
use Rattle.arc_plain.specs.Laws.{AreDrawn, AreKeptPanels}
use Rattle.arc_plain.specs.Panels.{PlainPanel, PlainPanels, fresh_panels, most_controls, most_panels, next_control, next_panel, with_control, with_panel, with_states, without_control, without_panel}
use Rattle.arc_plain.proofs.Sets.{drawn_after_sets, length_after_sets, pairs_after_sets}
use Rattle.arc_plain.proofs.Unfound.{unfound}

-- ---- one more, and some fewer

-- one with the next identifier
drawn_after_new : {A : Type 0} (id_of : A → ℕ) (xs : List A) (drawn : ℕ) (x : A) → AreDrawn id_of xs drawn → id_of x ≡ drawn + 1 →
    AreDrawn id_of (xs ++ x ∷ []) (drawn + 1)
drawn_after_new id_of xs drawn x before is_next = record {
  ascending = all_pairs_push (λ earlier later. id_of earlier < id_of later) xs x before.ascending
      (λ k d within. omega (arith, is_next, (before.drawn_before k d within).1));
  drawn_before = All-push (λ y. (1 ≤ id_of y) × (id_of y ≤ drawn + 1)) xs x
      (λ k d within. let b = before.drawn_before k d within in (b.0, omega (arith, b.1)))
      (omega (arith, is_next), omega (arith, is_next));
}

-- those that pass a test
drawn_after_filter : {A : Type 0} (id_of : A → ℕ) (p : A → Bool) (xs : List A) (drawn : ℕ) → AreDrawn id_of xs drawn → AreDrawn id_of (filter p xs) drawn
drawn_after_filter id_of p xs drawn before = record {
  ascending = AllPairs-filter (λ earlier later. id_of earlier < id_of later) p xs before.ascending;
  drawn_before = All-filter p (λ y. (1 ≤ id_of y) × (id_of y ≤ drawn)) xs before.drawn_before;
}

filter_within : {A : Type 0} (p : A → Bool) (xs : List A) → length (filter p xs) ≤ length xs
filter_within p [] = omega arith
filter_within p (x ∷ xs) = by_test (p x) (filter_within p xs)
  where
    by_test : (b : Bool) → length (filter p xs) ≤ length xs → length (cond b (x ∷ filter p xs) (filter p xs)) ≤ length (x ∷ xs)
    by_test true before = omega (arith, before)
    by_test false before = omega (arith, before)

-- ---- panels

-- at first
pub kept_at_first : AreKeptPanels fresh_panels
kept_at_first = record {
  controls_drawn = record { ascending = λ i j d before within. absurd (omega arith); drawn_before = λ k d within. absurd (omega arith) };
  controls_apart = λ i j d before within. absurd (omega arith);
  controls_within = omega arith;
  panels_drawn = record { ascending = λ i j d before within. absurd (omega arith); drawn_before = All-push (λ (p : PlainPanel). (1 ≤ p.panel.0) × (p.panel.0 ≤ 1)) [] _ (λ k d within. absurd (omega arith)) (omega arith, omega arith) };
  panels_apart = λ i j d before within. absurd (omega arith);
  panels_within = omega arith;
}

-- one more panel of a new name
pub kept_with_panel : (p : PlainPanels) (name : List ℕ) → AreKeptPanels p → nat_lt (length p.panels) most_panels ≡ true →
    find (λ x. bytes_eq x.name name) p.panels ≡ None → AreKeptPanels (with_panel p name)
kept_with_panel p name kept room free = record {
  controls_drawn = kept.controls_drawn;
  controls_apart = kept.controls_apart;
  controls_within = kept.controls_within;
  panels_drawn = drawn_after_new (λ x. x.panel.0) p.panels p.panels_drawn _ kept.panels_drawn refl;
  panels_apart = all_pairs_push (λ one other. one.name ≢ other.name) p.panels _ kept.panels_apart
      (λ k d within. not_from_Decides (bytes_eq (get_or p.panels k d).name name) (bytes_eq-Decides (get_or p.panels k d).name name)
      (unfound (λ x. bytes_eq x.name name) p.panels free k d within));
  panels_within = grind (arith, nat_tests, room, length-append {A = PlainPanel} p.panels (record { panel = next_panel p; name = name } ∷ []));
}

pub kept_without_panel : (p : PlainPanels) (panel : PanelId) → AreKeptPanels p → AreKeptPanels (without_panel p panel)
kept_without_panel p panel kept =
    let stays : PlainPanel → Bool = λ x. not (x.panel.0 == panel.0) in
    record {
      controls_drawn = kept.controls_drawn;
      controls_apart = kept.controls_apart;
      controls_within = kept.controls_within;
      panels_drawn = drawn_after_filter (λ x. x.panel.0) stays p.panels p.panels_drawn kept.panels_drawn;
      panels_apart = AllPairs-filter (λ one other. one.name ≢ other.name) stays p.panels kept.panels_apart;
      panels_within = omega (arith, filter_within stays p.panels, kept.panels_within);
    }

-- ---- controls

-- a control of another panel or of another name
abbrev IsApart : ControlItem → ControlItem → Type 0
IsApart earlier later = earlier.panel.0 ≡ later.panel.0 → earlier.name ≢ later.name

-- where the name has no holder in the panel, no control has both
free_is_apart : (xs : List ControlItem) (name : List ℕ) (panel : PanelId) (k : ℕ) (d : ControlItem) →
    find (λ c. (c.panel.0 == panel.0) && bytes_eq c.name name) xs ≡ None → k < length xs →
    (get_or xs k d).panel.0 ≡ panel.0 → (get_or xs k d).name ≢ name
free_is_apart xs name panel k d free within same_panel same_name =
    let x = get_or xs k d in
    let fails = unfound (λ c. (c.panel.0 == panel.0) && bytes_eq c.name name) xs free k d within in
    not_from_Decides ((x.panel.0 == panel.0) && bytes_eq x.name name)
    (Decides-and (x.panel.0 == panel.0) (bytes_eq x.name name)
    (Decides-eqb x.panel.0 panel.0) (bytes_eq-Decides x.name name))
    fails (same_panel, same_name)

-- one more control of a new name
pub kept_with_control : (p : PlainPanels) (name : List ℕ) (panel : PanelId) → AreKeptPanels p → nat_lt (length p.controls) most_controls ≡ true →
    find (λ c. (c.panel.0 == panel.0) && bytes_eq c.name name) p.controls ≡ None → AreKeptPanels (with_control p name panel)
kept_with_control p name panel kept room free = record {
  controls_drawn = drawn_after_new (λ c. c.control.0) p.controls p.controls_drawn _ kept.controls_drawn refl;
  controls_apart = all_pairs_push IsApart p.controls _ kept.controls_apart (λ k d within. free_is_apart p.controls name panel k d free within);
  controls_within = grind (arith, nat_tests, room, length-append {A = ControlItem} p.controls (record { panel = panel; control = next_control p; name = name; on = false } ∷ []));
  panels_drawn = kept.panels_drawn;
  panels_apart = kept.panels_apart;
  panels_within = kept.panels_within;
}

pub kept_without_control : (p : PlainPanels) (control : ControlId) → AreKeptPanels p → AreKeptPanels (without_control p control)
kept_without_control p control kept =
    let stays : ControlItem → Bool = λ c. not (c.control.0 == control.0) in
    record {
      controls_drawn = drawn_after_filter (λ c. c.control.0) stays p.controls p.controls_drawn kept.controls_drawn;
      controls_apart = AllPairs-filter IsApart stays p.controls kept.controls_apart;
      controls_within = omega (arith, filter_within stays p.controls, kept.controls_within);
      panels_drawn = kept.panels_drawn;
      panels_apart = kept.panels_apart;
      panels_within = kept.panels_within;
    }

-- controls that were set
pub kept_with_states : (p : PlainPanels) (entries : List Entry) → AreKeptPanels p → AreKeptPanels (with_states p entries)
kept_with_states p entries kept = record {
  controls_drawn = drawn_after_sets entries p.controls p.controls_drawn kept.controls_drawn;
  controls_apart = pairs_after_sets IsApart
      (λ a b a' b' same same' apart panels names. apart (omega (arith, same.panel, same'.panel, panels)) (sym same.name ∙ names ∙ same'.name))
      entries p.controls kept.controls_apart;
  controls_within = omega (arith, length_after_sets entries p.controls, kept.controls_within);
  panels_drawn = kept.panels_drawn;
  panels_apart = kept.panels_apart;
  panels_within = kept.panels_within;
}
