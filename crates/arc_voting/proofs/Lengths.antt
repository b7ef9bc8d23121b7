-- The commands that a journal applied, one entry after another.
use Rattle.std.proofs.Common.{◌≡◌, ℕ, ◌+◌, ◌<◌, Some, None, List, [], ◌∷◌, ◌++◌, length, take, drop, get_or, sym, ◌∙◌, ap, arith, refl, add-one, length-append, append_assoc}
use Rattle.std.specs.List.{filter_map, slice_get}
use Rattle.std.proofs.Math.Seq.{take-suc, get_or-append_seam}
use Rattle.std.proofs.lemmas.List.{take-append-drop}
use Rattle.std.proofs.lemmas.List.Elements.{filter_map-append}
use Rattle.std.proofs.lemmas.Option.{slice_get_read}
use Rattle.arc_data.specs.declared.command.Command.{Command}
use Rattle.arc_data.specs.declared.record.Record.{Record}
use Rattle.arc_voting.specs.Lists.{applied, closed_by}

-- one entry more
pub applied_more : (xs : List Record) (i : ℕ) (x : Record) → i < length xs → x ≡ get_or xs i x →
    applied (take (i + 1) xs) ≡ applied (take i xs) ++ filter_map closed_by (x ∷ [])
applied_more xs i x lt at =
    let e : take (i + 1) xs ≡ take i xs ++ x ∷ [] = rw (add-one, take-suc xs i x lt, ← at) refl in
    ap applied e ∙ filter_map-append closed_by (take i xs) (x ∷ [])

-- one entry more that closes nothing applies nothing
pub applied_same : (xs : List Record) (i : ℕ) (x : Record) → i < length xs → x ≡ get_or xs i x → closed_by x ≡ None →
    length (applied (take (i + 1) xs)) ≡ length (applied (take i xs))
applied_same xs i x lt at none =
    let e : applied (take (i + 1) xs) ≡ applied (take i xs) ++ filter_map closed_by (x ∷ []) = applied_more xs i x lt at in
    let f : filter_map closed_by (x ∷ []) ≡ [] = rw none refl in
    ap length (e ∙ ap (λ ys. applied (take i xs) ++ ys) f) ∙ length-append (applied (take i xs)) [] ∙ omega arith

-- one that closes a slot applies one command more
pub applied_one : (xs : List Record) (i : ℕ) (x : Record) (c : Command) → i < length xs → x ≡ get_or xs i x → closed_by x ≡ Some c →
    length (applied (take (i + 1) xs)) ≡ length (applied (take i xs)) + 1
applied_one xs i x c lt at some =
    let e : applied (take (i + 1) xs) ≡ applied (take i xs) ++ filter_map closed_by (x ∷ []) = applied_more xs i x lt at in
    let f : filter_map closed_by (x ∷ []) ≡ c ∷ [] = rw some refl in
    ap length (e ∙ ap (λ ys. applied (take i xs) ++ ys) f) ∙ length-append (applied (take i xs)) (c ∷ [])

-- and that one stands where the list ended before it
pub applied_here : (xs : List Record) (i : ℕ) (x : Record) (c : Command) → i < length xs → x ≡ get_or xs i x → closed_by x ≡ Some c →
    slice_get (applied xs) (length (applied (take i xs))) ≡ Some c
applied_here xs i x c lt at some =
    let front : List Command = applied (take i xs) in
    let rest : List Command = applied (drop (i + 1) xs) in
    let e : applied (take (i + 1) xs) ≡ front ++ c ∷ [] =
    applied_more xs i x lt at ∙ ap (λ ys. front ++ ys) (let f : filter_map closed_by (x ∷ []) ≡ c ∷ [] = rw some refl in f) in
    let whole : applied xs ≡ (front ++ c ∷ []) ++ rest =
    ap applied (sym (take-append-drop (i + 1) xs)) ∙ filter_map-append closed_by (take (i + 1) xs) (drop (i + 1) xs)
    ∙ ap (λ ys. ys ++ rest) e in
    let joined : (front ++ c ∷ []) ++ rest ≡ front ++ c ∷ rest = simp append_assoc in
    let l : length (front ++ c ∷ rest) ≡ length front + length (c ∷ rest) = length-append front (c ∷ rest) in
    let small : length front < length (front ++ c ∷ rest) = omega arith in
    let there : slice_get (front ++ c ∷ rest) (length front) ≡ Some c =
    slice_get_read (front ++ c ∷ rest) (length (front ++ c ∷ rest)) (length front) c refl small (sym (get_or-append_seam front c rest c)) in
    ap (λ ys. slice_get ys (length front)) (whole ∙ joined) ∙ there
