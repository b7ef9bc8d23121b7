-- What a crash may leave while an entry is written behind a closed gate, and the gate is opened.
use Rattle.std.specs.Prelude.{ℕ, ◌≡◌, ◌⊎◌, ◌+◌, List, [], ◌∷◌, length}
use Rattle.arc_disk.specs.Disk.{Torn, Only, written}

-- The image with these bytes behind the gate at this place.
abbrev pub staged : List ℕ → ℕ → List ℕ → List ℕ
staged old gate payload = written old (gate + 1) payload

-- The image with these bytes behind the gate at this place, and with the gate open.
abbrev pub opened : List ℕ → ℕ → List ℕ → List ℕ
opened old gate payload = written (staged old gate payload) gate (1 ∷ [])

-- At first what is written is torn behind the gate, and later the gate alone is torn.
abbrev pub TornInTurn : List ℕ → ℕ → List ℕ → List ℕ → Type 0
TornInTurn old gate payload image =
    Torn (gate + 1) (length payload) old image ⊎ Torn gate 1 (staged old gate payload) image

-- The disk has the old image, or that with these bytes behind the gate, and a crash leaves just what it has.
pub record IsGateShut {D : Type 0} (content : D → List ℕ) (may_leave : D → List ℕ → Type 0) (old new : D)
    (gate : ℕ) (payload : List ℕ) : Type 0 where
  pub reads : (content new ≡ content old) ⊎ (content new ≡ staged (content old) gate payload)
  pub durable : Only (content new) (may_leave new)
