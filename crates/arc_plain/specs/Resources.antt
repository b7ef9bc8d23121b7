-- Managed resources and autoshifts: what is kept of them, and what the calls on them leave.
use Rattle.std.specs.Prelude.{ℕ, ◌+◌, ◌<◌, ◌≤◌, ◌==◌, ◌++◌, nat_lt, Bool, false, not, List, [], ◌∷◌, All, AllPairs, length, map, filter, find, Option, is_some, Result, Ok, Err, if◌then◌else◌}
use Rattle.std.specs.List.{list_any}
use Rattle.std.specs.Str.{bytes_eq}
use Rattle.arc_ids.specs.declared.named_id.ResourceId.{ResourceId}
use Rattle.arc_data.specs.declared.resource.Resource.{Resource}
use Rattle.arc_data.specs.declared.resource.ResourceItem.{ResourceItem}
use Rattle.arc_data.specs.declared.reply.Named.TheVariants as named
use Rattle.arc_data.specs.declared.reply.Refusal.{Refusal}
use Rattle.arc_data.specs.declared.reply.Refusal.TheVariants.{NotFound, Limit, NameTaken, Started}
use Rattle.arc_plain.specs.Rows.{◌>>=◌, require, refuse_found}

-- the resources in order of registration, how many identifiers were drawn, and the zones in autoshift in order of start
pub record PlainResources : Type 0 where
  pub items : List Resource
  pub drawn : ℕ
  pub autoshifts : List (List ℕ)

-- none
abbrev pub no_resources : PlainResources
no_resources = record { items = []; drawn = 0; autoshifts = [] }

-- the most resources, and the most zones in autoshift
abbrev pub most_resources : ℕ
most_resources = 64

abbrev pub most_autoshifts : ℕ
most_autoshifts = 16

-- the resource with this identifier
abbrev pub resource_of : PlainResources → ResourceId → Option Resource
resource_of resources id = find (λ r. r.id.0 == id.0) resources.items

-- the resource that has this name
abbrev pub name_holder : PlainResources → List ℕ → Option Resource
name_holder resources name = find (λ r. bytes_eq r.name name) resources.items

-- the next identifier: they are drawn from 1 on
abbrev pub next_resource : PlainResources → ResourceId
next_resource resources = record { 0 = resources.drawn + 1 }

-- a resource that was registered, without autoshift
abbrev pub with_resource : PlainResources → List ℕ → List (List ℕ) → PlainResources
with_resource resources name zones = record resources {
  items = resources.items ++ record { id = next_resource resources; name = name; zones = zones; autoshift = false } ∷ [];
  drawn = resources.drawn + 1;
}

-- One more resource, without autoshift.
unfoldable pub registered : PlainResources → List ℕ → List (List ℕ) → Result PlainResources Refusal
registered resources name zones = do
  room ← require (nat_lt (length resources.items) most_resources) (Limit (length resources.items))
  free ← refuse_found (λ holder. NameTaken (named.Resource holder.id)) (name_holder resources name)
  Ok (with_resource resources name zones)

-- a resource with another autoshift status
abbrev pub switched : Bool → Resource → Resource
switched enabled resource = record resource { autoshift = enabled }

-- the resources with the autoshift status of one set
abbrev pub with_autoshift : PlainResources → ResourceId → Bool → PlainResources
with_autoshift resources id enabled =
    record resources { items = map (λ r. if r.id.0 == id.0 then switched enabled r else r) resources.items }

unfoldable pub autoshift_set : PlainResources → ResourceId → Bool → Result PlainResources Refusal
autoshift_set resources id enabled =
    if is_some (resource_of resources id) then Ok (with_autoshift resources id enabled) else Err (NotFound (named.Resource id))

-- whether a zone is in autoshift
abbrev pub is_in_autoshift : PlainResources → List ℕ → Bool
is_in_autoshift resources zone = list_any (λ z. bytes_eq z zone) resources.autoshifts

-- One more zone in autoshift, behind those that are.
unfoldable pub autoshift_started : PlainResources → List ℕ → Result PlainResources Refusal
autoshift_started resources zone = do
  new ← require (not (is_in_autoshift resources zone)) (Started zone)
  room ← require (nat_lt (length resources.autoshifts) most_autoshifts) (Limit (length resources.autoshifts))
  Ok (record resources { autoshifts = resources.autoshifts ++ zone ∷ [] })

-- The zone is in autoshift no more.
unfoldable pub autoshift_ended : PlainResources → List ℕ → Result PlainResources Refusal
autoshift_ended resources zone = do
  there ← require (is_in_autoshift resources zone) (NotFound (named.Zone zone))
  Ok (record resources { autoshifts = filter (λ z. not (bytes_eq z zone)) resources.autoshifts })

-- the resources as their list shows them
abbrev pub item_of : Resource → ResourceItem
item_of resource = record { name = resource.name; resource = resource.id }

abbrev pub items_of : PlainResources → List ResourceItem
items_of resources = map item_of resources.items

-- ---- what holds of the resources that are kept

-- identifiers ascend and were drawn, and no more is kept than the limits say
pub record AreKeptResources (resources : PlainResources) : Type 0 where
  pub in_order : AllPairs (λ earlier later. earlier.id.0 < later.id.0) resources.items
  pub drawn_before : All (λ r. r.id.0 ≤ resources.drawn) resources.items
  pub within_limit : length resources.items ≤ most_resources
  pub autoshifts_within : length resources.autoshifts ≤ most_autoshifts
