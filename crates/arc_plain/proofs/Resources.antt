-- What holds of the resources after each call.
use Rattle.std.proofs.Common.{◌≡◌, ℕ, ◌+◌, ◌<◌, ◌≤◌, ◌==◌, Bool, true, false, cond, List, [], ◌∷◌, ◌++◌, length, get_or, map, filter, set, position, Some, None, is_some, Ok, Err, refl, ap, ◌∙◌, arith, not, bytes_eq}
use Rattle.std.proofs.lemmas.Bool.{lt-ltb}
use Rattle.std.proofs.lemmas.List.{get_or-map, get_or_default, length-map, length-append}
use Rattle.std.proofs.lemmas.List.Elements.{All-push}
use Rattle.std.proofs.lemmas.List.Quantifiers.{all_pairs_push, position-Some}
use Rattle.arc_ids.specs.declared.named_id.ResourceId.{ResourceId}
use Rattle.arc_data.specs.declared.resource.Resource.{Resource}
use Rattle.arc_data.specs.declared.reply.Named.TheVariants as named
use Rattle.arc_data.specs.declared.reply.Refusal.TheVariants.{NotFound}
use Rattle.arc_plain.specs.Resources.{AreKeptResources, PlainResources, autoshift_ended, autoshift_set, is_in_autoshift, most_resources, name_holder, registered, resource_of, switched, with_autoshift, with_resource}
use Rattle.arc_plain.proofs.Choices.{if_yes}
use Rattle.arc_plain.proofs.Found.{find_there, find_nowhere}
use Rattle.arc_plain.proofs.Keyed.{changed-set}

-- no resource
pub kept_at_first : AreKeptResources (record { items = []; drawn = 0; autoshifts = [] })
kept_at_first = record {
  in_order = λ i j d before within. absurd (omega arith);
  drawn_before = λ k d within. absurd (omega arith);
  within_limit = omega arith;
  autoshifts_within = omega arith;
}

-- one more resource
pub kept_after_register : (r : PlainResources) (x : Resource) → AreKeptResources r → length r.items < most_resources → x.id.0 ≡ r.drawn + 1 →
    AreKeptResources (record r { items = r.items ++ x ∷ []; drawn = r.drawn + 1 })
kept_after_register r x kept room next = record {
  in_order = all_pairs_push (λ earlier later. earlier.id.0 < later.id.0) r.items x kept.in_order
      (λ k d within. omega (arith, kept.drawn_before k d within));
  drawn_before = All-push (λ y. y.id.0 ≤ r.drawn + 1) r.items x (λ k d within. omega (arith, kept.drawn_before k d within)) (omega arith);
  within_limit = omega (arith, length-append r.items (x ∷ []));
  autoshifts_within = kept.autoshifts_within;
}

-- the autoshift status of one
set_one : ResourceId → Bool → Resource → Resource
set_one id enabled r = cond (r.id.0 == id.0) (record r { autoshift = enabled }) r

same_id : (test enabled : Bool) (r : Resource) → (cond test (record r { autoshift = enabled }) r).id.0 ≡ r.id.0
same_id true enabled r = refl
same_id false enabled r = refl

pub kept_after_autoshift : (r : PlainResources) (id : ResourceId) (enabled : Bool) → AreKeptResources r → AreKeptResources (with_autoshift r id enabled)
unfolding set_one
kept_after_autoshift r id enabled kept = record {
  in_order = λ i j d before within.
      let inside : j < length r.items = rw (length-map r.items (set_one id enabled)) at within in
      omega (arith, kept.in_order i j d before inside, id_at i d (omega arith), id_at j d inside);
  drawn_before = λ k d within.
      let inside : k < length r.items = rw (length-map r.items (set_one id enabled)) at within in
      omega (arith, kept.drawn_before k d inside, id_at k d inside);
  within_limit = omega (arith, kept.within_limit, length-map r.items (set_one id enabled));
  autoshifts_within = kept.autoshifts_within;
}
  where
    id_at : (k : ℕ) (d : Resource) → k < length r.items → (get_or (map (set_one id enabled) r.items) k d).id.0 ≡ (get_or r.items k d).id.0
    id_at k d within =
        ap (λ (x : Resource). x.id.0) (get_or-map (set_one id enabled) r.items k d d within)
        ∙ same_id ((get_or r.items k d).id.0 == id.0) enabled (get_or r.items k d)

-- a resource is switched at its place
pub switched_there : (r : PlainResources) (id : ResourceId) (enabled : Bool) (i : ℕ) (d : Resource) → AreKeptResources r →
    position (λ x. x.id.0 == id.0) r.items ≡ Some i →
    autoshift_set r id enabled ≡ Ok (record r { items = set r.items i (switched enabled (get_or r.items i d)) })
unfolding autoshift_set
switched_there r id enabled i d kept there =
    let place = (position-Some (λ x. x.id.0 == id.0) r.items i d there).0 in
    let x = get_or r.items i d in
    let found = find_there (λ y. y.id.0 == id.0) r.items i x there (get_or_default r.items i d x place) in
    let some : is_some (resource_of r id) ≡ true = ap is_some found in
    if_yes (is_some (resource_of r id)) (Ok (with_autoshift r id enabled)) (Err (NotFound (named.Resource id))) some
    ∙ ap (λ (items : List Resource). Ok (record r { items = items })) (changed-set (λ y. y.id.0) (switched enabled) r.items id.0 i d kept.in_order there)

-- there is none to switch where none has the identifier
pub none_to_switch : (r : PlainResources) (id : ResourceId) (enabled : Bool) → position (λ x. x.id.0 == id.0) r.items ≡ None →
    autoshift_set r id enabled ≡ Err (NotFound (named.Resource id))
unfolding autoshift_set
none_to_switch r id enabled nowhere =
    let none : is_some (resource_of r id) ≡ false = ap is_some (find_nowhere (λ y. y.id.0 == id.0) r.items nowhere) in
    rw none refl

-- ---- what is done where nothing refuses it

-- a resource of a new name is registered
pub registers : (r : PlainResources) (name : List ℕ) (zones : List (List ℕ)) → length r.items < most_resources →
    name_holder r name ≡ None → registered r name zones ≡ Ok (with_resource r name zones)
unfolding registered
registers r name zones room free =
    let test = lt-ltb (length r.items) 64 room in
    rw (test, free) refl

-- a zone in autoshift is taken out
pub ends : (r : PlainResources) (zone : List ℕ) → is_in_autoshift r zone ≡ true →
    autoshift_ended r zone ≡ Ok (record r { autoshifts = filter (λ z. not (bytes_eq z zone)) r.autoshifts })
unfolding autoshift_ended
ends r zone there = rw there refl
