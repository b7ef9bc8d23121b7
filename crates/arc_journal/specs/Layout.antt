-- How a journal lies on its disk.
use Rattle.std.specs.Prelude.{ℕ, ◌≡◌, ◌≢◌, ◌+◌, ◌*◌, List, [], ◌∷◌, ◌++◌, length, codes}
use Rattle.std.specs.Int.{w32}
use Rattle.arc_bytes.specs.Numbers.{number_bytes}
use Rattle.sha2.specs.Sha256.{sha256}

-- With what each journal of this node begins: the letters ARCJRNL, the version 1, the node, and three bytes 0.
abbrev pub signature : ℕ → List ℕ
signature node = codes "ARCJRNL" ++ 1 ∷ node ∷ 0 ∷ 0 ∷ 0 ∷ []

-- The head: the signature, and the greatest length of the node's list.
abbrev pub head : ℕ → ℕ → List ℕ
head node slots = signature node ++ number_bytes w32 slots

-- What stands behind the gate of an entry: the length of its body, the body, and the body's digest.
abbrev pub sealed : List ℕ → List ℕ
sealed body = number_bytes w32 (length body) ++ body ++ sha256 body

-- Entries with these bodies, each behind an open gate.
abbrev pub entries : List (List ℕ) → List ℕ
entries [] = []
entries (body ∷ bodies) = (1 ∷ sealed body) ++ entries bodies

-- How many entries a journal takes.
abbrev pub entry_limit : ℕ → ℕ
entry_limit slots = 16 * slots + 64

-- The image of a journal: the head, entries with these bodies, and a gate that isn't open. What follows it is ignored.
pub record IsImageOf (node slots : ℕ) (bodies : List (List ℕ)) (image : List ℕ) : Type 0 where
  pub gate : ℕ
  pub ignored : List ℕ
  pub closed : gate ≢ 1
  pub bytes : image ≡ head node slots ++ entries bodies ++ gate ∷ ignored
