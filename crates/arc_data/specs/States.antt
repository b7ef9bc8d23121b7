-- Which controls are On.
use Rattle.std.specs.Prelude.{Bool, false, map, unwrap_or}
use Rattle.std.specs.Ordering.{nat_cmp}
use Rattle.std.specs.FinMap.{FinMap, from_entries, get, contains_key}
use Rattle.std.specs.BTreeMap.{BTreeMap}
use Rattle.arc_ids.specs.declared.named_id.ControlId.{ControlId}

-- a map in the keys' order as a finite map from the controls' numbers
abbrev pub map_of : BTreeMap ControlId Bool → FinMap nat_cmp Bool
map_of states = from_entries (map (λ e. (e.0.0, e.1)) states.entries)

-- whether a control is there
abbrev pub has_state : FinMap nat_cmp Bool → ControlId → Bool
has_state states control = contains_key states control.0

-- whether a control is On; one that isn't there isn't
abbrev pub is_on : FinMap nat_cmp Bool → ControlId → Bool
is_on states control = unwrap_or (get states control.0) false
