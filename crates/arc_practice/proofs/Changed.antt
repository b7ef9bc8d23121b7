-- What a change of a configuration gives.
use Rattle.std.proofs.Common.{◌≡◌, ◌≢◌, ℕ, ◌<◌, ◌==◌, true, false, cond, List, length, get_or, set, map, position, Option, Some, None, is_some, Ok, Err, refl, sym, ap, ◌∙◌, arith, eqb, inl, inr}
use Rattle.std.specs.Option.{option_map}
use Rattle.std.proofs.lemmas.Bool.{cases_eq, cases_lt, eqb-true}
use Rattle.std.proofs.lemmas.Bool.Decides.{nat_tests}
use Rattle.std.proofs.lemmas.List.{same_lists, get_or-map, get_or_default, length-map, get_or-set_other, length-set}
use Rattle.std.proofs.lemmas.List.Quantifiers.{position-Some}
use Rattle.std.proofs.lemmas.Grind.{get_or-set_at}
use Rattle.arc_ids.specs.declared.named_id.ResourceId.{ResourceId}
use Rattle.arc_data.specs.declared.practice.Configured.{Configured}
use Rattle.arc_data.specs.declared.practice.PracticeChange.{PracticeChange}
use Rattle.arc_data.specs.declared.reply.Refusal.TheVariants.{NotConfigured}
use Rattle.arc_plain.specs.Practice.{PlainPractices, config_changed, config_of, replaced}
use Rattle.arc_plain.proofs.Choices.{if_yes}
use Rattle.arc_plain.proofs.Found.{find_there, find_nowhere}
use Rattle.arc_practice.specs.Kept.{AreDistinct}

-- nothing is changed where the resource has none
pub none_to_change : (p : PlainPractices) (resource : ResourceId) (change : PracticeChange) →
    position (λ c. c.resource.0 == resource.0) p.configs ≡ None →
    config_changed p resource change ≡ Err (NotConfigured resource)
unfolding config_changed
none_to_change p resource change nowhere =
    let none : is_some (config_of p resource) ≡ false =
    ap (λ (o : Option Configured). is_some (option_map (λ c. c.config) o)) (find_nowhere (λ c. c.resource.0 == resource.0) p.configs nowhere) in
    rw none refl

-- the configuration of a resource, changed
abbrev changed : ResourceId → PracticeChange → Configured → Configured
changed resource change c = cond (c.resource.0 == resource.0) (replaced change c) c

-- no other place has the resource
other_resource : (xs : List Configured) (k i j : ℕ) (d : Configured) → AreDistinct xs → i < length xs → j < length xs →
    j ≢ i → (get_or xs i d).resource.0 ≡ k → (get_or xs j d).resource.0 ≢ k
other_resource xs k i j d distinct here there apart own own' =
    elim (cases_lt j i) [
      | inl before ↦ distinct j i d before here (own' ∙ sym own)
      | inr after ↦ distinct i j d (omega arith) there (own ∙ sym own')
    ]

-- what the change leaves at a place
changed_at : (xs : List Configured) (resource : ResourceId) (change : PracticeChange) (i j : ℕ) (d x : Configured) → AreDistinct xs →
    position (λ c. c.resource.0 == resource.0) xs ≡ Some i → j < length xs →
    get_or (map (changed resource change) xs) j x ≡ get_or (set xs i (replaced change (get_or xs i d))) j x
changed_at xs resource change i j d x distinct there within =
    let at = get_or-map (changed resource change) xs j x x within in
    let first = position-Some (λ c. c.resource.0 == resource.0) xs i d there in
    let own = eqb-true (get_or xs i d).resource.0 resource.0 first.1 in
    elim (cases_eq j i) [
      | inl here ↦
          let item : get_or xs j x ≡ get_or xs i d = ap (λ n. get_or xs n x) here ∙ get_or_default xs i x d first.0 in
          let test = first.1 in
          at ∙ ap (changed resource change) item ∙ rw test (sym (get_or-set_at xs i j (replaced change (get_or xs i d)) x here first.0))
      | inr elsewhere ↦
          let same = ap (λ (c : Configured). c.resource.0) (get_or_default xs i x d first.0) ∙ own in
          let other = other_resource xs resource.0 i j x distinct first.0 within elsewhere same in
          let test : eqb (get_or xs j x).resource.0 resource.0 ≡ false = grind (arith, nat_tests) in
          at ∙ rw test (sym (get_or-set_other xs i j (replaced change (get_or xs i d)) x elsewhere))
    ]

-- a configuration is changed at its place
pub changed_there : (p : PlainPractices) (resource : ResourceId) (change : PracticeChange) (i : ℕ) (d : Configured) → AreDistinct p.configs →
    position (λ c. c.resource.0 == resource.0) p.configs ≡ Some i →
    config_changed p resource change ≡ Ok (record p { configs = set p.configs i (replaced change (get_or p.configs i d)) })
unfolding config_changed
changed_there p resource change i d distinct there =
    let xs = p.configs in
    let place = (position-Some (λ c. c.resource.0 == resource.0) xs i d there).0 in
    let x = get_or xs i d in
    let found = find_there (λ c. c.resource.0 == resource.0) xs i x there (get_or_default xs i d x place) in
    let some : is_some (config_of p resource) ≡ true = ap (λ (o : Option Configured). is_some (option_map (λ c. c.config) o)) found in
    let same : map (changed resource change) xs ≡ set xs i (replaced change x) =
    same_lists (map (changed resource change) xs) (set xs i (replaced change x))
    (length-map xs (changed resource change) ∙ sym (length-set xs i (replaced change x)))
    (λ j y below. changed_at xs resource change i j d y distinct there (rw (length-map xs (changed resource change)) at below)) in
    if_yes (is_some (config_of p resource)) (Ok (record p { configs = map (changed resource change) xs })) (Err (NotConfigured resource)) some
    ∙ ap (λ (configs : List Configured). Ok (record p { configs = configs })) same
