-- A map in the order of its controls is the finite map from their numbers: what is found, put and taken away.
use Rattle.std.proofs.Common.{◌≡◌, Bool, List, [], ◌∷◌, map, Some, None, refl, sym, ◌∙◌}
use Rattle.std.specs.declared.cmp.Ordering.{Ordering}
use Rattle.std.specs.Ordering.{nat_cmp, eq_by_cmp}
use Rattle.std.specs.Cmp.{nat_cmp_total, eq_by_cmp_equiv}
use Rattle.std.specs.Map.{lookup}
use Rattle.std.specs.BTreeMap.{BTreeMap, UpdatesBy, get_by, is_at}
use Rattle.std.specs.FinMap.{find, get, insert, remove, get-from_entries, get-insert, get-remove, same_map, nat_cmp-IsAntisymmetric}
use Rattle.arc_ids.specs.declared.named_id.ControlId.{ControlId}
use Rattle.arc_data.specs.States.{map_of}

-- an order of controls is that of their numbers
abbrev pub IsByNumber : (ControlId → ControlId → Ordering) → Type 0
IsByNumber cmp = (a b : ControlId) → cmp a b ≡ nat_cmp a.0 b.0

-- the first entry of a control is the first of its number
found : (cmp : ControlId → ControlId → Ordering) → IsByNumber cmp → (c : ControlId) (es : List (ControlId × Bool)) →
    find nat_cmp c.0 (map (λ e. (e.0.0, e.1)) es) ≡ lookup (is_at (cmp c)) es
found cmp by_number c [] = refl
found cmp by_number c (e ∷ es) = rw (by_number c e.0, found cmp by_number c es) refl

-- what is found
pub get_by_number : (cmp : ControlId → ControlId → Ordering) → IsByNumber cmp →
    (m : BTreeMap ControlId Bool) (c : ControlId) → get (map_of m) c.0 ≡ get_by (cmp c) m
get_by_number cmp by_number m c =
    get-from_entries nat_cmp_total (map (λ e. (e.0.0, e.1)) m.entries) c.0 ∙ found cmp by_number c m.entries

-- whether two controls are one
same_number : (cmp : ControlId → ControlId → Ordering) → IsByNumber cmp → (k c : ControlId) →
    is_at (cmp k) c ≡ eq_by_cmp nat_cmp c.0 k.0
same_number cmp by_number k c = rw (by_number k c) ((eq_by_cmp_equiv nat_cmp_total).symm k.0 c.0)

-- what is put
pub insert_by_number : (cmp : ControlId → ControlId → Ordering) → IsByNumber cmp →
    (m n : BTreeMap ControlId Bool) (k : ControlId) (on : Bool) → UpdatesBy cmp (cmp k) m n (Some on) →
    map_of n ≡ insert (map_of m) k.0 on
insert_by_number cmp by_number m n k on updates =
    same_map nat_cmp_total nat_cmp-IsAntisymmetric (map_of n) (insert (map_of m) k.0 on) (λ q.
    let c : ControlId = record { 0 = q } in
    get_by_number cmp by_number n c
    ∙ updates.0 c
    ∙ rw (same_number cmp by_number k c, ← get_by_number cmp by_number m c) refl
    ∙ sym (get-insert nat_cmp_total (map_of m) k.0 on q))

-- what is taken away
pub remove_by_number : (cmp : ControlId → ControlId → Ordering) → IsByNumber cmp →
    (m n : BTreeMap ControlId Bool) (k : ControlId) → UpdatesBy cmp (cmp k) m n None →
    map_of n ≡ remove (map_of m) k.0
remove_by_number cmp by_number m n k updates =
    same_map nat_cmp_total nat_cmp-IsAntisymmetric (map_of n) (remove (map_of m) k.0) (λ q.
    let c : ControlId = record { 0 = q } in
    get_by_number cmp by_number n c
    ∙ updates.0 c
    ∙ rw (same_number cmp by_number k c, ← get_by_number cmp by_number m c) refl
    ∙ sym (get-remove nat_cmp_total (map_of m) k.0 q))
