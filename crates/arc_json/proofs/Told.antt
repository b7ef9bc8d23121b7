-- Values that are lent, as plain data.
use Rattle.std.proofs.Common.{◌≡◌, Option, Some, None, option_map, Bor, refl}
use Rattle.serde_json.specs.View.{view}
use Rattle.serde_json.specs.declared.value.Value.{Value}
use Rattle.arc_json.specs.Rules.{told}

-- one word for it and the other
pub told_is : (o : Option (Bor Value)) → told o ≡ option_map (λ v. view v.now) o
told_is None = refl
told_is (Some value) = refl
