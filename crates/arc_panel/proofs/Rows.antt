-- What the operations on panels and controls do to those that are kept.
use Rattle.std.proofs.Common.{◌≡◌, ◌≢◌, ℕ, ◌+◌, ◌<◌, ◌≤◌, ◌==◌, ◌&&◌, ◌||◌, Bool, true, false, not, nat_lt, List, [], ◌∷◌, ◌++◌, length, map, filter, find, Option, Some, None, Ok, Err, All, refl, sym, ap, ◌∙◌, arith}
use Rattle.std.specs.List.{list_any}
use Rattle.std.specs.Option.{is_some, option_map, unwrap_or}
use Rattle.std.specs.Ordering.{nat_cmp}
use Rattle.std.specs.FinMap.{FinMap, get, insert, remove}
use Rattle.std.specs.Str.{bytes_eq}
use Rattle.std.proofs.lemmas.Bool.{eqb-true}
use Rattle.std.proofs.lemmas.Bool.Decides.{nat_tests}
use Rattle.std.proofs.lemmas.Map.Views.{any-filter_same}
use Rattle.std.proofs.lemmas.List.{length-append, length-map, map-append}
use Rattle.std.proofs.lemmas.List.Elements.{All-push, All-filter, All-weaker, recursion_from_All}
use Rattle.arc_ids.specs.declared.named_id.ControlId.{ControlId}
use Rattle.arc_ids.specs.declared.named_id.PanelId.{PanelId}
use Rattle.arc_data.specs.declared.batch.Entry.{Entry}
use Rattle.arc_data.specs.declared.part_end.PartEnd.TheVariants.{Refused}
use Rattle.arc_data.specs.declared.reply.ControlItem.{ControlItem}
use Rattle.arc_data.specs.declared.reply.Named.TheVariants as named
use Rattle.arc_data.specs.declared.reply.Refusal.TheVariants.{NotFound, Limit, NameTaken, InUse}
use Rattle.arc_data.specs.States.{has_state, is_on}
use Rattle.arc_plain.specs.Panels.{most_controls}
use Rattle.arc_plain.specs.Panels.{PlainPanels, add_control, add_panel, has_control, has_panel, list_controls, most_panels, name_of, on_of, panel_of, remove_control, remove_panel, with_states}
use Rattle.arc_plain.proofs.Lists.{filter-map, found-map, found_through, list_any-map, nothing_through}
use Rattle.arc_panel.specs.declared.tables.Control.{Control}
use Rattle.arc_panel.specs.declared.tables.Panel.{Panel}
use Rattle.arc_panel.specs.Kept.{AreKept, in_scope, item_with, panel_with, seen_as}
use Rattle.arc_panel.specs.Rows.{Lists, Tells}
use Rattle.arc_panel.proofs.States.{IsOther, get_put, has_put, has_taken, is_on_found, is_some_found, items_put, items_set, items_taken}

-- panels and controls that are kept
module _ (panels : List Panel) (panels_drawn : ℕ) (controls : List Control) (drawn : ℕ) (states : FinMap nat_cmp Bool) where
  -- what they are seen as
  abbrev pub seen : PlainPanels
  seen = seen_as panels panels_drawn controls drawn states

  -- a panel is seen where there is one
  pub sees_panel : (panel : PanelId) (b : Bool) → list_any (λ p. p.panel.0 == panel.0) panels ≡ b → has_panel seen panel ≡ b
  sees_panel panel b known = list_any-map (λ p. p.panel.0 == panel.0) panel_with panels ∙ known

  -- ---- panels

  pub add_panel_full : (name : List ℕ) (new : PlainPanels) (n : ℕ) → most_panels ≤ length panels → n ≡ length panels →
      Tells (add_panel seen name) (Err (Refused (Limit n))) new
  unfolding add_panel
  add_panel_full name new n full is =
      let same = length-map panels panel_with in
      let no_room : nat_lt (length seen.panels) most_panels ≡ false = grind (arith, nat_tests, same) in
      rw no_room (ap Limit (is ∙ sym same))

  pub add_panel_taken : (name : List ℕ) (new : PlainPanels) (holder : PanelId) → length panels < most_panels →
      option_map (λ p. p.panel) (find (λ p. bytes_eq p.name name) panels) ≡ Some holder →
      Tells (add_panel seen name) (Err (Refused (NameTaken (named.Panel holder)))) new
  unfolding add_panel
  add_panel_taken name new holder below found =
      let same = length-map panels panel_with in
      let room : nat_lt (length seen.panels) most_panels ≡ true = grind (arith, nat_tests, same) in
      let there = found_through (λ p. p.panel) (find (λ p. bytes_eq p.name name) seen.panels) holder
      (found-map (λ p. p.panel) (λ p. bytes_eq p.name name) panel_with panels ∙ found) in
      rw (room, there.1) (ap (λ p. NameTaken (named.Panel p)) (sym there.2))

  pub add_panel_done : (name : List ℕ) (new : List Panel) → length panels < most_panels →
      option_map (λ p. p.panel) (find (λ p. bytes_eq p.name name) panels) ≡ None →
      new ≡ panels ++ record { panel = record { 0 = panels_drawn + 1 }; name = name } ∷ [] →
      Tells (add_panel seen name) (Ok (record { 0 = panels_drawn + 1 })) (seen_as new (panels_drawn + 1) controls drawn states)
  unfolding add_panel
  add_panel_done name new below free is =
      let same = length-map panels panel_with in
      let room : nat_lt (length seen.panels) most_panels ≡ true = grind (arith, nat_tests, same) in
      let none = nothing_through (λ p. p.panel) (find (λ p. bytes_eq p.name name) seen.panels)
      (found-map (λ p. p.panel) (λ p. bytes_eq p.name name) panel_with panels ∙ free) in
      rw (room, none) (
        refl,
        ap (λ l. let q : PlainPanels = record seen { panels = l; panels_drawn = panels_drawn + 1 } in q)
            (ap (map panel_with) is ∙ map-append panel_with panels (record { panel = record { 0 = panels_drawn + 1 }; name = name } ∷ [])),
      )

  pub remove_panel_unknown : (panel : PanelId) (new : PlainPanels) → list_any (λ p. p.panel.0 == panel.0) panels ≡ false →
      Tells (remove_panel seen panel) (Err (Refused (NotFound (named.Panel panel)))) new
  unfolding remove_panel
  remove_panel_unknown panel new unknown = rw (sees_panel panel false unknown) refl

  pub remove_panel_first : (panel : PanelId) (new : PlainPanels) → list_any (λ p. p.panel.0 == panel.0) panels ≡ true →
      panel.0 ≡ 1 → Tells (remove_panel seen panel) (Err (Refused (InUse (named.Panel panel)))) new
  unfolding remove_panel
  remove_panel_first panel new known first =
      let is_first : (panel.0 == 1) ≡ true = grind (arith, nat_tests) in
      rw (sees_panel panel true known, is_first) refl

  pub remove_panel_used : (panel : PanelId) (new : PlainPanels) (user : ControlId) →
      list_any (λ p. p.panel.0 == panel.0) panels ≡ true → panel.0 ≢ 1 →
      option_map (λ c. c.control) (find (λ c. c.panel.0 == panel.0) controls) ≡ Some user →
      Tells (remove_panel seen panel) (Err (Refused (InUse (named.Control user)))) new
  unfolding remove_panel
  remove_panel_used panel new user known other found =
      let not_first : (panel.0 == 1) ≡ false = grind (arith, nat_tests) in
      let there = found_through (λ c. c.control) (find (λ c. c.panel.0 == panel.0) seen.controls) user
      (found-map (λ c. c.control) (λ c. c.panel.0 == panel.0) (item_with states) controls ∙ found) in
      rw (sees_panel panel true known, not_first, there.1) (ap (λ c. InUse (named.Control c)) (sym there.2))

  pub remove_panel_done : (panel : PanelId) (new : List Panel) →
      list_any (λ p. p.panel.0 == panel.0) panels ≡ true → panel.0 ≢ 1 →
      option_map (λ c. c.control) (find (λ c. c.panel.0 == panel.0) controls) ≡ None →
      new ≡ filter (λ p. not (p.panel.0 == panel.0)) panels →
      Tells (remove_panel seen panel) (Ok tt) (seen_as new panels_drawn controls drawn states)
  unfolding remove_panel
  remove_panel_done panel new known other empty is =
      let not_first : (panel.0 == 1) ≡ false = grind (arith, nat_tests) in
      let none = nothing_through (λ c. c.control) (find (λ c. c.panel.0 == panel.0) seen.controls)
      (found-map (λ c. c.control) (λ c. c.panel.0 == panel.0) (item_with states) controls ∙ empty) in
      rw (sees_panel panel true known, not_first, none) (
        refl,
        ap (λ l. let q : PlainPanels = record seen { panels = l } in q)
            (ap (map panel_with) is ∙ sym (filter-map (λ p. not (p.panel.0 == panel.0)) panel_with panels)),
      )

  -- ---- controls

  pub add_control_unknown : (name : List ℕ) (panel : PanelId) (new : PlainPanels) → list_any (λ p. p.panel.0 == panel.0) panels ≡ false →
      Tells (add_control seen name panel) (Err (Refused (NotFound (named.Panel panel)))) new
  unfolding add_control
  add_control_unknown name panel new unknown = rw (sees_panel panel false unknown) refl

  pub add_control_full : (name : List ℕ) (panel : PanelId) (new : PlainPanels) (n : ℕ) → list_any (λ p. p.panel.0 == panel.0) panels ≡ true →
      most_controls ≤ length controls → n ≡ length controls →
      Tells (add_control seen name panel) (Err (Refused (Limit n))) new
  unfolding add_control
  add_control_full name panel new n known full is =
      let same = length-map controls (item_with states) in
      let no_room : nat_lt (length seen.controls) most_controls ≡ false = grind (arith, nat_tests, same) in
      rw (sees_panel panel true known, no_room) (ap Limit (is ∙ sym same))

  pub add_control_taken : (name : List ℕ) (panel : PanelId) (new : PlainPanels) (holder : ControlId) →
      list_any (λ p. p.panel.0 == panel.0) panels ≡ true → length controls < most_controls →
      option_map (λ c. c.control) (find (λ c. (c.panel.0 == panel.0) && bytes_eq c.name name) controls) ≡ Some holder →
      Tells (add_control seen name panel) (Err (Refused (NameTaken (named.Control holder)))) new
  unfolding add_control
  add_control_taken name panel new holder known below found =
      let same = length-map controls (item_with states) in
      let room : nat_lt (length seen.controls) most_controls ≡ true = grind (arith, nat_tests, same) in
      let there = found_through (λ c. c.control) (find (λ c. (c.panel.0 == panel.0) && bytes_eq c.name name) seen.controls) holder
      (found-map (λ c. c.control) (λ c. (c.panel.0 == panel.0) && bytes_eq c.name name) (item_with states) controls ∙ found) in
      rw (sees_panel panel true known, room, there.1) (ap (λ c. NameTaken (named.Control c)) (sym there.2))

  -- the controls with a new one, Off
  items_with_new : (name : List ℕ) (panel : PanelId) → All (λ c. c.control.0 ≤ drawn) controls →
      map (item_with (insert states (drawn + 1) false)) (controls ++ record { panel = panel; control = record { 0 = drawn + 1 }; name = name } ∷ [])
      ≡ map (item_with states) controls ++ record { panel = panel; control = record { 0 = drawn + 1 }; name = name; on = false } ∷ []
  items_with_new name panel before =
      let own : ((drawn + 1) == (drawn + 1)) ≡ true = grind (arith, nat_tests) in
      map-append (item_with (insert states (drawn + 1) false)) controls (record { panel = panel; control = record { 0 = drawn + 1 }; name = name } ∷ [])
      ∙ rw (
        items_put states (drawn + 1) false controls
            (recursion_from_All (IsOther (drawn + 1)) controls
            (All-weaker (λ c. c.control.0 ≤ drawn) (IsOther (drawn + 1)) (λ c below. omega arith) controls before)),
        get_put states (drawn + 1) (drawn + 1) false,
        own,
      ) refl

  pub add_control_done : (name : List ℕ) (panel : PanelId) (new : List Control) → All (λ c. c.control.0 ≤ drawn) controls →
      list_any (λ p. p.panel.0 == panel.0) panels ≡ true → length controls < most_controls →
      option_map (λ c. c.control) (find (λ c. (c.panel.0 == panel.0) && bytes_eq c.name name) controls) ≡ None →
      new ≡ controls ++ record { panel = panel; control = record { 0 = drawn + 1 }; name = name } ∷ [] →
      Tells (add_control seen name panel) (Ok (record { 0 = drawn + 1 })) (seen_as panels panels_drawn new (drawn + 1) (insert states (drawn + 1) false))
  unfolding add_control
  add_control_done name panel new before known below free is =
      let same = length-map controls (item_with states) in
      let room : nat_lt (length seen.controls) most_controls ≡ true = grind (arith, nat_tests, same) in
      let none = nothing_through (λ c. c.control) (find (λ c. (c.panel.0 == panel.0) && bytes_eq c.name name) seen.controls)
      (found-map (λ c. c.control) (λ c. (c.panel.0 == panel.0) && bytes_eq c.name name) (item_with states) controls ∙ free) in
      rw (sees_panel panel true known, room, none) (
        refl,
        ap (λ l. let q : PlainPanels = record seen { controls = l; controls_drawn = drawn + 1 } in q)
            (ap (map (item_with (insert states (drawn + 1) false))) is ∙ items_with_new name panel before),
      )

  -- a control is seen where there is one
  pub sees_control : (c : ControlId) → has_control seen c ≡ list_any (λ k. k.control.0 == c.0) controls
  sees_control c =
      is_some_found (λ k. k.control.0 == c.0) seen.controls ∙ list_any-map (λ k. k.control.0 == c.0) (item_with states) controls

  pub remove_control_unknown : (control : ControlId) (new : PlainPanels) → list_any (λ k. k.control.0 == control.0) controls ≡ false →
      Tells (remove_control seen control) (Err (Refused (NotFound (named.Control control)))) new
  unfolding remove_control
  remove_control_unknown control new unknown = rw (sees_control control, unknown) refl

  pub remove_control_done : (control : ControlId) (new : List Control) → list_any (λ k. k.control.0 == control.0) controls ≡ true →
      new ≡ filter (λ c. not (c.control.0 == control.0)) controls →
      Tells (remove_control seen control) (Ok tt) (seen_as panels panels_drawn new drawn (remove states control.0))
  unfolding remove_control
  remove_control_done control new known is =
      rw (sees_control control, known) (
        refl,
        ap (λ l. let q : PlainPanels = record seen { controls = l } in q)
            (ap (map (item_with (remove states control.0))) is
            ∙ items_taken states control.0 controls
            ∙ sym (filter-map (λ c. not (c.control.0 == control.0)) (item_with states) controls)),
      )

  -- ---- states

  pub on_seen : (c : ControlId) → has_state states c ≡ list_any (λ k. k.control.0 == c.0) controls → is_on states c ≡ on_of seen c
  on_seen c has =
      is_on_found states c controls has
      ∙ ap (λ o. unwrap_or o false) (sym (found-map (λ x. x.on) (λ x. x.control.0 == c.0) (item_with states) controls))

  pub set_done : (e : Entry) → seen_as panels panels_drawn controls drawn (insert states e.control.0 e.on) ≡ with_states seen (e ∷ [])
  set_done e = ap (λ l. let q : PlainPanels = record seen { controls = l } in q) (items_set states e controls)

  -- ---- reading

  all_pass : (xs : List Control) → filter (λ c. in_scope None c.panel) xs ≡ xs
  all_pass [] = refl
  all_pass (x ∷ xs) = ap (λ l. x ∷ l) (all_pass xs)

  pub list_all_done : (items : List ControlItem) →
      items ≡ map (item_with states) (filter (λ c. in_scope None c.panel) controls) → Lists (list_controls seen None) (Ok items)
  unfolding list_controls
  list_all_done items is = is ∙ ap (map (item_with states)) (all_pass controls)

  pub list_unknown : (panel : PanelId) → list_any (λ p. p.panel.0 == panel.0) panels ≡ false →
      Lists {A = List ControlItem} (list_controls seen (Some panel)) (Err (Refused (NotFound (named.Panel panel))))
  unfolding list_controls
  list_unknown panel unknown = rw (sees_panel panel false unknown) refl

  pub list_done : (panel : PanelId) (items : List ControlItem) → list_any (λ p. p.panel.0 == panel.0) panels ≡ true →
      items ≡ map (item_with states) (filter (λ c. in_scope (Some panel) c.panel) controls) →
      Lists (list_controls seen (Some panel)) (Ok items)
  unfolding list_controls
  list_done panel items known is =
      rw (sees_panel panel true known) (is ∙ sym (filter-map (λ c. c.panel.0 == panel.0) (item_with states) controls))

  pub panel_seen : (control : ControlId) (o : Option Control) → o ≡ find (λ c. c.control.0 == control.0) controls →
      option_map (λ c. c.panel) o ≡ panel_of seen control
  panel_seen control o is =
      ap (option_map (λ (c : Control). c.panel)) is
      ∙ sym (found-map (λ c. c.panel) (λ c. c.control.0 == control.0) (item_with states) controls)

  pub name_seen : (control : ControlId) (o : Option Control) → o ≡ find (λ c. c.control.0 == control.0) controls →
      option_map (λ c. c.name) o ≡ name_of seen control
  name_seen control o is =
      ap (option_map (λ (c : Control). c.name)) is
      ∙ sym (found-map (λ c. c.name) (λ c. c.control.0 == control.0) (item_with states) controls)

-- ---- what is kept stays so

turned : (a b : ℕ) → (a == b) ≡ (b == a)
turned a b = grind (arith, nat_tests)

or_swap : (a b c : Bool) → (a || (b || c)) ≡ (b || (a || c))
or_swap true true c = refl
or_swap true false c = refl
or_swap false b c = refl

any_push : (p : Control → Bool) (xs : List Control) (x : Control) → list_any p (xs ++ x ∷ []) ≡ (p x || list_any p xs)
any_push p [] x = refl
any_push p (y ∷ xs) x = ap (λ b. p y || b) (any_push p xs x) ∙ or_swap (p y) (p x) (list_any p xs)

pub kept_added : (panels : List Panel) (controls : List Control) (drawn : ℕ) (states : FinMap nat_cmp Bool) (new : List Control) (c : Control) →
    AreKept panels controls drawn states → length controls < most_controls → c.control.0 ≡ drawn + 1 → new ≡ controls ++ c ∷ [] →
    AreKept panels new (drawn + 1) (insert states (drawn + 1) false)
kept_added panels controls drawn states new c kept below own is = record {
  panels_within = kept.panels_within;
  controls_within = rw is (omega (arith, length-append {A = Control}));
  drawn_before = rw is (All-push (λ x. x.control.0 ≤ drawn + 1) controls c
      (All-weaker (λ x. x.control.0 ≤ drawn) (λ x. x.control.0 ≤ drawn + 1) (λ x before. omega arith) controls kept.drawn_before)
      (omega arith));
  have_states = λ q.
      has_put states (drawn + 1) false q
      ∙ ap (λ h. (q.0 == (drawn + 1)) || h) (kept.have_states q)
      ∙ ap (λ b. b || list_any (λ k. k.control.0 == q.0) controls) (turned q.0 (drawn + 1) ∙ ap (λ n. n == q.0) (sym own))
      ∙ sym (any_push (λ k. k.control.0 == q.0) controls c)
      ∙ ap (list_any (λ (k : Control). k.control.0 == q.0)) (sym is);
}

pub kept_removed : (panels : List Panel) (controls : List Control) (drawn : ℕ) (states : FinMap nat_cmp Bool) (new : List Control) (k : ℕ) →
    AreKept panels controls drawn states → length new ≤ length controls → new ≡ filter (λ c. not (c.control.0 == k)) controls →
    AreKept panels new drawn (remove states k)
kept_removed panels controls drawn states new k kept fewer is = record {
  panels_within = kept.panels_within;
  controls_within = omega (arith, kept.controls_within);
  drawn_before = rw is (All-filter (λ c. not (c.control.0 == k)) (λ c. c.control.0 ≤ drawn) controls kept.drawn_before);
  have_states = λ q.
      has_taken states k q
      ∙ ap (λ h. not (q.0 == k) && h) (kept.have_states q)
      ∙ sym (any-filter_same (λ c. c.control.0 == q.0) (λ c. not (c.control.0 == k)) (not (q.0 == k))
      (λ c own. ap (λ n. not (n == k)) (eqb-true c.control.0 q.0 own)) controls)
      ∙ ap (list_any (λ (c : Control). c.control.0 == q.0)) (sym is);
}

or_known : (b h : Bool) → (b ≡ true → h ≡ true) → (b || h) ≡ h
or_known true h known = sym (known refl)
or_known false h known = refl

pub kept_set : (panels : List Panel) (controls : List Control) (drawn : ℕ) (states : FinMap nat_cmp Bool) (control : ControlId) (on : Bool) →
    AreKept panels controls drawn states → has_state states control ≡ true →
    AreKept panels controls drawn (insert states control.0 on)
kept_set panels controls drawn states control on kept there = record {
  panels_within = kept.panels_within;
  controls_within = kept.controls_within;
  drawn_before = kept.drawn_before;
  have_states = λ q.
      has_put states control.0 on q
      ∙ or_known (q.0 == control.0) (has_state states q)
      (λ same. ap (λ n. is_some (get states n)) (eqb-true q.0 control.0 same) ∙ there)
      ∙ kept.have_states q;
}
