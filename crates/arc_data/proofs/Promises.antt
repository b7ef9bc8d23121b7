-- The last of some ballots.
use Rattle.std.proofs.Common.{◌≡◌, ℕ, List, [], ◌∷◌, Some, None, refl}
use Rattle.std.specs.List.{last_or}
use Rattle.std.specs.Option.{unwrap_or}

-- where there is none it is 0, as if a ballot 0 stood before them
pub from_zero : (ballots : List ℕ) → unwrap_or (last_or (Some 0) ballots) 0 ≡ unwrap_or (last_or None ballots) 0
from_zero [] = refl
from_zero (ballot ∷ rest) = refl
