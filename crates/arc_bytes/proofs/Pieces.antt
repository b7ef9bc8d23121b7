-- Pieces, one after another.
use Rattle.std.proofs.Common.{ℕ, ◌≡◌, ◌+◌, List, ◌++◌, take, drop, Option, None, Some, Ok, sym, ap, ◌∙◌, append_assoc, subst}
use Rattle.std.proofs.Math.Seq.{take-add}
use Rattle.arc_bytes.specs.Sink.{Appends}
use Rattle.arc_bytes.specs.Source.{Came, Reads}

-- What had come, and what one read gave then.
pub came_more : (old between new : Option (List ℕ)) (given buf : List ℕ) (n : ℕ)
    → Came old between given → Reads between new (Ok n) buf → Came old new (given ++ take n buf)
came_more None between new given buf n before read =
    let P : Option (List ℕ) → Type 0 = λ s. Reads s new (Ok n) buf in subst P before read
came_more (Some left) between new given buf n (rest, here, is) read =
    let P : Option (List ℕ) → Type 0 = λ s. Reads s new (Ok n) buf in
    let more : Reads (Some rest) new (Ok n) buf = subst P is read in
    (drop n rest, here ∙ ap (λ bytes. given ++ bytes) more.0 ∙ sym (append_assoc given (take n buf) (drop n rest)), more.1)

-- The first n bytes went out, and then the first m of the rest.
pub appends_more : (old between new : Option (List ℕ)) (n m : ℕ) (bytes rest : List ℕ)
    → rest ≡ drop n bytes → Appends old between (take n bytes) → Appends between new (take m rest) → Appends old new (take (n + m) bytes)
appends_more None between new n m bytes rest is before last =
    let P : Option (List ℕ) → Type 0 = λ s. Appends s new (take m rest) in subst P before last
appends_more (Some taken) between new n m bytes rest is before last =
    let P : Option (List ℕ) → Type 0 = λ s. Appends s new (take m rest) in
    let more : Appends (Some (taken ++ take n bytes)) new (take m rest) = subst P before last in
    more ∙ ap Some (simp (is, append_assoc, take-add))
