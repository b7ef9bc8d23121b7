-- Which of two a test chooses.
use Rattle.std.proofs.Common.{◌≡◌, Bool, true, cond, refl}

-- the first, where the test holds
pub if_yes : {A : Type 0} (b : Bool) (x y : A) → b ≡ true → cond b x y ≡ x
if_yes b x y holds = rw holds refl
