-- What the operations on rules do to those that are kept.
use Rattle.std.proofs.Common.{◌≡◌, ℕ, ◌+◌, ◌<◌, ◌≤◌, ◌==◌, ◌&&◌, Bool, true, false, cond, not, nat_lt, List, [], ◌∷◌, ◌++◌, length, map, filter, find, position, get_or, set, Option, Some, None, Ok, Err, IfSome, refl, sym, ap, ◌∙◌, arith}
use Rattle.std.specs.Bool.{beq}
use Rattle.std.specs.List.{list_any, AllByRecursion}
use Rattle.std.specs.Option.{option_map}
use Rattle.std.proofs.lemmas.Bool.Decides.{nat_tests}
use Rattle.std.proofs.lemmas.List.{length-append, map-append}
use Rattle.std.proofs.lemmas.Simd.{map-map}
use Rattle.std.proofs.lemmas.List.Elements.{All-push, All-filter, All-weaker, All-from_recursion, recursion_from_All}
use Rattle.std.proofs.lemmas.List.Quantifiers.{position-Some}
use Rattle.arc_ids.specs.declared.named_id.ControlId.{ControlId}
use Rattle.arc_ids.specs.declared.named_id.PanelId.{PanelId}
use Rattle.arc_ids.specs.declared.named_id.RuleId.{RuleId}
use Rattle.arc_data.specs.declared.part_end.PartEnd.TheVariants.{Refused}
use Rattle.arc_data.specs.declared.reply.Named.TheVariants as named
use Rattle.arc_data.specs.declared.reply.Refusal.TheVariants.{NotFound, Limit, NameTaken}
use Rattle.arc_data.specs.declared.rule.RuleSpec.{RuleSpec}
use Rattle.arc_plain.specs.Rules.{Change, PlainRule, PlainRules, add_rule, change_first, holds_name, is_among, is_gate, is_rule, item_of, most_rules, remove_rule, renamed, rules_in, update_rule, watched_by, with_changes}
use Rattle.arc_plain.proofs.Found.{find_nowhere, find_there}
use Rattle.arc_rules.specs.declared.kept.Kept.{Kept}
use Rattle.arc_rules.specs.declared.rules.Rules.{Rules}
use Rattle.arc_data.specs.declared.command.TheConstants.{MAX_MS}
use Rattle.arc_rules.specs.Kept.{IsTimely, noted, renamed_kept}
use Rattle.arc_rules.specs.Standing.{StandsFor, Tells, kept_of}
use Rattle.arc_plain.proofs.Lists.{found_through, nothing_through, change_first-map, changed_at, filter-map, find-map}
use Rattle.arc_rules.proofs.Noting.{changes_at, last_change-more, last_change-none}
use Rattle.arc_rules.proofs.Standing.{found_stands, has_stands, length_stands}

-- these rules, and so many identifiers drawn, stand for those of a plain state
abbrev pub Stand : List Kept → ℕ → PlainRules → Type 0
Stand rules drawn plain = StandsFor (record { rules = rules; drawn = drawn }) plain

-- ---- a new rule

pub add_full : (rules : List Kept) (drawn : ℕ) (plain : PlainRules) (spec : RuleSpec) (new : Rules) (n : ℕ) →
    Stand rules drawn plain → most_rules ≤ length rules → n ≡ length rules →
    Tells (add_rule plain spec) (Err (Refused (Limit n))) new
unfolding add_rule
add_full rules drawn plain spec new n stands full is =
    let same = length_stands (record { rules = rules; drawn = drawn }) plain stands in
    let no_room : nat_lt (length plain.rules) most_rules ≡ false = grind (arith, nat_tests, same) in
    rw no_room (ap Limit (is ∙ same))

pub add_taken : (rules : List Kept) (drawn : ℕ) (plain : PlainRules) (spec : RuleSpec) (new : Rules) (holder : RuleId) →
    Stand rules drawn plain → length rules < most_rules →
    option_map (λ r. r.rule) (find (λ r. holds_name spec.panel spec.name r.spec) rules) ≡ Some holder →
    Tells (add_rule plain spec) (Err (Refused (NameTaken (named.Rule holder)))) new
unfolding add_rule
add_taken rules drawn plain spec new holder stands below found =
    let kept : Rules = record { rules = rules; drawn = drawn } in
    let same = length_stands kept plain stands in
    let room : nat_lt (length plain.rules) most_rules ≡ true = grind (arith, nat_tests, same) in
    let there = found_through (λ r. r.rule) (find (λ r. holds_name spec.panel spec.name r.spec) plain.rules) holder
    (sym (found_stands kept plain (λ _ s. holds_name spec.panel spec.name s) stands) ∙ found) in
    rw (room, there.1) (ap (λ r. NameTaken (named.Rule r)) (sym there.2))

pub add_done : (rules : List Kept) (drawn : ℕ) (plain : PlainRules) (spec : RuleSpec) (new : List Kept) →
    Stand rules drawn plain → length rules < most_rules →
    option_map (λ r. r.rule) (find (λ r. holds_name spec.panel spec.name r.spec) rules) ≡ None →
    new ≡ rules ++ record { rule = record { 0 = drawn + 1 }; spec = spec; last = None } ∷ [] →
    Tells (add_rule plain spec) (Ok (record { 0 = drawn + 1 })) (record { rules = new; drawn = drawn + 1 })
unfolding add_rule
add_done rules drawn plain spec new stands below free is =
    let kept : Rules = record { rules = rules; drawn = drawn } in
    let same = length_stands kept plain stands in
    let room : nat_lt (length plain.rules) most_rules ≡ true = grind (arith, nat_tests, same) in
    let none = nothing_through (λ r. r.rule) (find (λ r. holds_name spec.panel spec.name r.spec) plain.rules)
    (sym (found_stands kept plain (λ _ s. holds_name spec.panel spec.name s) stands) ∙ free) in
    let made : PlainRule = record { rule = record { 0 = plain.rules_drawn + 1 }; spec = spec; made_after = length plain.changes } in
    let item = ap (λ n. let k : Kept = record { rule = record { 0 = n + 1 }; spec = spec; last = None } in k) stands.drawn
    ∙ ap (λ last. let k : Kept = record { rule = record { 0 = plain.rules_drawn + 1 }; spec = spec; last = last } in k)
    (sym (last_change-none plain.changes made refl)) in
    rw (room, none) (
      ap (λ n. let r : RuleId = record { 0 = n + 1 } in r) stands.drawn,
      record {
        rules = is
            ∙ ap (λ l. l ++ record { rule = record { 0 = drawn + 1 }; spec = spec; last = None } ∷ []) stands.rules
            ∙ ap (λ k. map (kept_of plain.changes) plain.rules ++ k ∷ []) item
            ∙ sym (map-append (kept_of plain.changes) plain.rules (made ∷ []));
        drawn = ap (λ n. n + 1) stands.drawn;
        made_before = All-push (λ r. r.made_after ≤ length plain.changes) plain.rules made stands.made_before (omega arith);
      },
    )

-- ---- a rule less

pub remove_unknown : (rules : List Kept) (drawn : ℕ) (plain : PlainRules) (rule : RuleId) (new : Rules) →
    Stand rules drawn plain → list_any (λ r. r.rule.0 == rule.0) rules ≡ false →
    Tells (remove_rule plain rule) (Err (Refused (NotFound (named.Rule rule)))) new
unfolding remove_rule
remove_unknown rules drawn plain rule new stands unknown =
    let gone = sym (has_stands (record { rules = rules; drawn = drawn }) plain rule stands) ∙ unknown in
    rw gone refl

pub remove_done : (rules : List Kept) (drawn : ℕ) (plain : PlainRules) (rule : RuleId) (new : List Kept) →
    Stand rules drawn plain → list_any (λ r. r.rule.0 == rule.0) rules ≡ true →
    new ≡ filter (λ r. not (r.rule.0 == rule.0)) rules →
    Tells (remove_rule plain rule) (Ok tt) (record { rules = new; drawn = drawn })
unfolding remove_rule
remove_done rules drawn plain rule new stands known is =
    let there = sym (has_stands (record { rules = rules; drawn = drawn }) plain rule stands) ∙ known in
    rw there (
      refl,
      record {
        rules = is
            ∙ ap (filter (λ r. not (r.rule.0 == rule.0))) stands.rules
            ∙ filter-map (λ r. not (r.rule.0 == rule.0)) (kept_of plain.changes) plain.rules;
        drawn = stands.drawn;
        made_before = All-filter (λ r. not (r.rule.0 == rule.0)) (λ r. r.made_after ≤ length plain.changes) plain.rules stands.made_before;
      },
    )

-- ---- a changed rule

-- the rule of this kind, as it is kept
abbrev pub is_kept_rule : Bool → RuleId → Kept → Bool
is_kept_rule gating rule r = (r.rule.0 == rule.0) && beq (is_gate r.spec) gating

-- another rule of that panel and that name
abbrev pub is_other : RuleId → PanelId → List ℕ → RuleId → RuleSpec → Bool
is_other rule panel name r spec = not (r.0 == rule.0) && holds_name panel name spec

-- the same rule is found
rule_found : (rules : List Kept) (drawn : ℕ) (plain : PlainRules) (gating : Bool) (rule : RuleId) →
    Stand rules drawn plain →
    option_map (kept_of plain.changes) (find (is_rule gating rule) plain.rules) ≡ find (is_kept_rule gating rule) rules
rule_found rules drawn plain gating rule stands =
    sym (find-map (is_kept_rule gating rule) (kept_of plain.changes) plain.rules)
    ∙ ap (find (is_kept_rule gating rule)) (sym stands.rules)

pub update_unknown : (rules : List Kept) (drawn : ℕ) (plain : PlainRules) (gating : Bool) (rule : RuleId) (name : List ℕ) (wait : ℕ) (new : Rules) →
    Stand rules drawn plain → position (is_kept_rule gating rule) rules ≡ None →
    Tells (update_rule plain gating rule name wait) (Err (Refused (NotFound (named.Rule rule)))) new
unfolding update_rule
update_unknown rules drawn plain gating rule name wait new stands unknown =
    let gone = nothing_through (kept_of plain.changes) (find (is_rule gating rule) plain.rules)
    (rule_found rules drawn plain gating rule stands ∙ find_nowhere (is_kept_rule gating rule) rules unknown) in
    rw gone refl

-- the rule at the place
rule_there : (rules : List Kept) (drawn : ℕ) (plain : PlainRules) (gating : Bool) (rule : RuleId) (i : ℕ) (x : Kept) →
    Stand rules drawn plain → position (is_kept_rule gating rule) rules ≡ Some i → x ≡ get_or rules i x →
    (r : PlainRule) × (find (is_rule gating rule) plain.rules ≡ Some r) × (kept_of plain.changes r ≡ x)
rule_there rules drawn plain gating rule i x stands there is =
    found_through (kept_of plain.changes) (find (is_rule gating rule) plain.rules) x
    (rule_found rules drawn plain gating rule stands ∙ find_there (is_kept_rule gating rule) rules i x there is)

pub update_taken : (rules : List Kept) (drawn : ℕ) (plain : PlainRules) (gating : Bool) (rule : RuleId) (name : List ℕ) (wait : ℕ) (new : Rules) (i : ℕ) (x : Kept) (panel : PanelId) (holder : RuleId) →
    Stand rules drawn plain → position (is_kept_rule gating rule) rules ≡ Some i → x ≡ get_or rules i x → panel ≡ x.spec.panel →
    option_map (λ r. r.rule) (find (λ r. is_other rule panel name r.rule r.spec) rules) ≡ Some holder →
    Tells (update_rule plain gating rule name wait) (Err (Refused (NameTaken (named.Rule holder)))) new
unfolding update_rule
update_taken rules drawn plain gating rule name wait new i x panel holder stands there is same found =
    let r = rule_there rules drawn plain gating rule i x stands there is in
    let own = same ∙ sym (ap (λ (k : Kept). k.spec.panel) r.2) in
    let taken = found_through (λ r. r.rule) (find (λ q. is_other rule r.0.spec.panel name q.rule q.spec) plain.rules) holder
    (ap (λ p. option_map (λ q. q.rule) (find (λ (q : PlainRule). is_other rule p name q.rule q.spec) plain.rules)) (sym own)
    ∙ sym (found_stands (record { rules = rules; drawn = drawn }) plain (is_other rule panel name) stands)
    ∙ found) in
    rw (r.1, taken.1) (ap (λ r. NameTaken (named.Rule r)) (sym taken.2))

-- what holds of each item and stays when it changes holds of each after one has changed
changed_each : {A : Type 0} (P : A → Type 0) (b : Bool) (x y : A) (xs ys : List A) → P y → P x →
    AllByRecursion P xs → AllByRecursion P ys → AllByRecursion P (cond b (y ∷ xs) (x ∷ ys))
changed_each P true x y xs ys changed same before after = (changed, before)
changed_each P false x y xs ys changed same before after = (same, after)

all_changed : {A : Type 0} (P : A → Type 0) (p : A → Bool) (f : A → A) → ((x : A) → P x → P (f x)) → (xs : List A) →
    AllByRecursion P xs → AllByRecursion P (change_first p f xs)
all_changed P p f keeps [] before = before
all_changed P p f keeps (x ∷ xs) before =
    changed_each P (p x) x (f x) xs (change_first p f xs) (keeps x before.0) before.0 before.1 (all_changed P p f keeps xs before.1)

pub update_done : (rules : List Kept) (drawn : ℕ) (plain : PlainRules) (gating : Bool) (rule : RuleId) (name : List ℕ) (wait : ℕ) (new : List Kept) (i : ℕ) (x : Kept) (panel : PanelId) →
    Stand rules drawn plain → position (is_kept_rule gating rule) rules ≡ Some i → x ≡ get_or rules i x → panel ≡ x.spec.panel →
    option_map (λ r. r.rule) (find (λ r. is_other rule panel name r.rule r.spec) rules) ≡ None →
    new ≡ set rules i (renamed_kept name wait (get_or rules i x)) →
    Tells (update_rule plain gating rule name wait) (Ok tt) (record { rules = new; drawn = drawn })
unfolding update_rule
update_done rules drawn plain gating rule name wait new i x panel stands there is same free becomes =
    let r = rule_there rules drawn plain gating rule i x stands there is in
    let own = same ∙ sym (ap (λ (k : Kept). k.spec.panel) r.2) in
    let none = nothing_through (λ r. r.rule) (find (λ q. is_other rule r.0.spec.panel name q.rule q.spec) plain.rules)
    (ap (λ p. option_map (λ q. q.rule) (find (λ (q : PlainRule). is_other rule p name q.rule q.spec) plain.rules)) (sym own)
    ∙ sym (found_stands (record { rules = rules; drawn = drawn }) plain (is_other rule panel name) stands)
    ∙ free) in
    let first = position-Some (is_kept_rule gating rule) rules i x there in
    let rename = λ (q : PlainRule). let q' : PlainRule = record q { spec = renamed name wait q.spec } in q' in
    rw (r.1, none) (
      refl,
      record {
        rules = becomes
            ∙ sym (changed_at (is_kept_rule gating rule) (renamed_kept name wait) rules i x first.0 first.2 first.1)
            ∙ ap (change_first (is_kept_rule gating rule) (renamed_kept name wait)) stands.rules
            ∙ change_first-map (is_kept_rule gating rule) (renamed_kept name wait) (kept_of plain.changes) rename (λ q. refl) plain.rules;
        drawn = stands.drawn;
        made_before = All-from_recursion (λ q. q.made_after ≤ length plain.changes) (change_first (is_rule gating rule) rename plain.rules)
            (all_changed (λ q. q.made_after ≤ length plain.changes) (is_rule gating rule) rename (λ q before. before) plain.rules
            (recursion_from_All (λ q. q.made_after ≤ length plain.changes) plain.rules stands.made_before));
      },
    )

-- ---- further changes

-- a rule that is noted at a time has a time
timely_or : (b : Bool) (now : ℕ) (last : Option ℕ) → now ≤ MAX_MS → IfSome last (λ time. time ≤ MAX_MS) →
    IfSome (cond b (Some now) last) (λ time. time ≤ MAX_MS)
timely_or true now last is_time before = is_time
timely_or false now last is_time before = before

pub timely_noted : (changed : List ControlId) (now : ℕ) (r : Kept) → now ≤ MAX_MS → IsTimely r → IsTimely (noted changed now r)
timely_noted changed now r is_time before =
    timely_or (list_any (is_among (watched_by r.spec)) changed) now r.last is_time before

-- each rule is noted
noted_each : (changes : List Change) (changed : List ControlId) (now : ℕ) (rules : List PlainRule) →
    AllByRecursion (λ r. r.made_after ≤ length changes) rules →
    map (noted changed now) (map (kept_of changes) rules) ≡ map (kept_of (changes ++ changes_at now changed)) rules
noted_each changes changed now [] before = refl
noted_each changes changed now (r ∷ rules) before =
    ap (λ last. let k : Kept = record { rule = r.rule; spec = r.spec; last = last } in k ∷ map (noted changed now) (map (kept_of changes) rules))
    (sym (last_change-more changes r changed now before.0))
    ∙ ap (λ l. kept_of (changes ++ changes_at now changed) r ∷ l) (noted_each changes changed now rules before.1)

pub note_done : (rules : List Kept) (drawn : ℕ) (plain : PlainRules) (changed : List ControlId) (now : ℕ) (new : List Kept) →
    Stand rules drawn plain → new ≡ map (noted changed now) rules → Stand new drawn (with_changes plain changed now)
note_done rules drawn plain changed now new stands is = record {
  rules = is
      ∙ ap (map (noted changed now)) stands.rules
      ∙ noted_each plain.changes changed now plain.rules
      (recursion_from_All (λ r. r.made_after ≤ length plain.changes) plain.rules stands.made_before);
  drawn = stands.drawn;
  made_before = All-weaker (λ r. r.made_after ≤ length plain.changes)
      (λ r. r.made_after ≤ length (plain.changes ++ changes_at now changed))
      (λ r before. omega (arith, length-append {A = Change})) plain.rules stands.made_before;
}

-- ---- the rules of a panel

pub in_panel_done : (rules : List Kept) (drawn : ℕ) (plain : PlainRules) (panel : PanelId) → Stand rules drawn plain →
    map (λ r. item_of r.rule r.spec) (filter (λ r. r.spec.panel.0 == panel.0) rules) ≡ rules_in plain panel
in_panel_done rules drawn plain panel stands =
    ap (λ (l : List Kept). map (λ r. item_of r.rule r.spec) (filter (λ r. r.spec.panel.0 == panel.0) l)) stands.rules
    ∙ ap (map (λ (r : Kept). item_of r.rule r.spec)) (filter-map (λ r. r.spec.panel.0 == panel.0) (kept_of plain.changes) plain.rules)
    ∙ map-map (λ (r : Kept). item_of r.rule r.spec) (kept_of plain.changes) (filter (λ r. r.spec.panel.0 == panel.0) plain.rules)
