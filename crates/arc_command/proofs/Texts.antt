-- The test for UTF-8.
use Rattle.std.proofs.Common.{◌≡◌, ℕ, Bool, true, false, ◌&&◌, List, refl}
use Rattle.std.specs.Str.{IsUtf8, is_utf8}
use Rattle.std.proofs.lemmas.Bool.{false_from_ne_true}
use Rattle.std.proofs.lemmas.Str.{IsUtf8-from_is_utf8}

-- bytes that aren't UTF-8 fail the test, whatever was tested before
pub not_utf8 : (b : Bool) (bytes : List ℕ) → (IsUtf8 bytes → ⊥) → (b && is_utf8 bytes) ≡ false
not_utf8 true bytes isnt = false_from_ne_true (is_utf8 bytes) (λ is. isnt (IsUtf8-from_is_utf8 bytes is))
not_utf8 false bytes isnt = refl
