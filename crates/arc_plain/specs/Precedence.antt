-- Which shift moves a resource's traffic away: the customer's comes first, then autoshift, then a practice run.
use Rattle.std.specs.Prelude.{ℕ, List, find, Option, Some, None, if◌then◌else◌}
use Rattle.std.specs.List.{list_any}
use Rattle.std.specs.Option.{option_map}
use Rattle.std.specs.Str.{bytes_eq}
use Rattle.arc_ids.specs.declared.named_id.ResourceId.{ResourceId}
use Rattle.arc_data.specs.declared.resource.Resource.{Resource}
use Rattle.arc_data.specs.declared.shift.Kind.{Kind}
use Rattle.arc_data.specs.declared.shift.Kind.TheVariants.{Customer, Autoshift, PracticeRun}
use Rattle.arc_data.specs.declared.shift.Shift.{Shift}
use Rattle.arc_plain.specs.Shifts.{active_of}
use Rattle.arc_plain.specs.Resources.{PlainResources, resource_of}
use Rattle.arc_plain.specs.Practice.{PlainPractices, pending_of}

-- the first, or else the second
abbrev pub or_else : {A : Type 0} → Option A → Option A → Option A
or_else None other = other
or_else (Some x) other = Some x

-- the first started autoshift whose zone the resource has, where autoshift is enabled for it
abbrev pub autoshift_on : Resource → List (List ℕ) → Option (List ℕ)
autoshift_on resource autoshifts =
    if resource.autoshift then find (λ zone. list_any (λ z. bytes_eq z zone) resource.zones) autoshifts else None

-- the same for a resource that may not be kept
abbrev pub autoshift_at : Option Resource → List (List ℕ) → Option (List ℕ)
autoshift_at None autoshifts = None
autoshift_at (Some resource) autoshifts = autoshift_on resource autoshifts

-- the shift that is applied to a resource, with the zone from which it moves traffic away
abbrev pub applied_to : List Shift → PlainPractices → PlainResources → ResourceId → ℕ → Option (Kind × List ℕ)
applied_to shifts practices resources resource now =
    or_else (option_map (λ s. (Customer, s.away_from)) (active_of shifts resource now))
    (or_else (option_map (λ zone. (Autoshift, zone)) (autoshift_at (resource_of resources resource) resources.autoshifts))
    (option_map (λ r. (PracticeRun, r.away_from)) (pending_of practices.runs resource now)))
