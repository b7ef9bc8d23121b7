-- What is told of a resource decides which zone in autoshift is applied to it.
use Rattle.std.proofs.Common.{◌≡◌, ◌≢◌, ℕ, Bool, true, false, List, Option, Some, None, find, refl}
use Rattle.std.specs.Option.{option_map}
use Rattle.arc_data.specs.declared.resource.Resource.{Resource}
use Rattle.arc_plain.specs.Precedence.{autoshift_at}
use Rattle.arc_precedence.specs.Applied.{has_zone}

-- none is applied to a resource that isn't kept
pub unkept : (o : Option Resource) (autoshifts : List (List ℕ)) → None ≡ option_map (λ r. r.zones) o → autoshift_at o autoshifts ≡ None
unkept None autoshifts nothing = refl
unkept (Some r) autoshifts nothing = absurd (cc)

-- the first whose zone it has, where autoshift is enabled
pub enabled : (o : Option Resource) (zones autoshifts : List (List ℕ)) → Some zones ≡ option_map (λ r. r.zones) o →
    Some true ≡ option_map (λ r. r.autoshift) o →
    find (λ zone. has_zone zones zone) autoshifts ≡ autoshift_at o autoshifts
unfolding has_zone
enabled None zones autoshifts has on = absurd (cc)
enabled (Some r) zones autoshifts has on =
    let own : r.zones ≡ zones = cc in
    let is : r.autoshift ≡ true = cc in
    rw is (rw own refl)

-- none where it is disabled
pub disabled : (o : Option Resource) (autoshifts : List (List ℕ)) → option_map (λ r. r.autoshift) o ≢ Some true →
    autoshift_at o autoshifts ≡ None
disabled None autoshifts off = refl
disabled (Some r) autoshifts off = by_status r.autoshift refl
  where
    by_status : (b : Bool) → r.autoshift ≡ b → autoshift_at (Some r) autoshifts ≡ None
    by_status true is = absurd (off (rw is refl))
    by_status false is = rw is refl
