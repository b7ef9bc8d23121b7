-- What went out piece by piece.
use Rattle.std.proofs.Common.{◌≡◌, ℕ, ◌+◌, ◌++◌, refl, sym, ap, ◌∙◌, List, [], length, take, drop, Option, Some, None, append_assoc, append-nil, subst, ◌∷◌}
use Rattle.std.specs.List.{concat}
use Rattle.std.proofs.Math.Seq.{take-add, take-append_seam, take-append-add}
use Rattle.std.proofs.lemmas.List.{take-append-drop, drop-drop}
use Rattle.arc_bytes.specs.Sink.{Appends, AppendsPrefix}

-- nothing went out
pub appends_nothing : (old : Option (List ℕ)) → Appends old old []
appends_nothing None = refl
appends_nothing (Some old) = ap Some (sym (append-nil old))

-- one piece and then another
pub appends_then : (old mid new : Option (List ℕ)) (a b : List ℕ) → Appends old mid a → Appends mid new b → Appends old new (a ++ b)
appends_then None mid new a b first second = subst (λ m. Appends m new b) first second
appends_then (Some old) mid new a b first second =
    let at : Appends (Some (old ++ a)) new b = subst (λ m. Appends m new b) first second in
    at ∙ ap Some (append_assoc old a b)

-- the same text by another name
pub appends_same : (old new : Option (List ℕ)) (a b : List ℕ) → a ≡ b → Appends old new a → Appends old new b
appends_same old new a b same appended = subst (Appends old new) same appended

pub front_same : (old new : Option (List ℕ)) (a b : List ℕ) → a ≡ b → AppendsPrefix old new a → AppendsPrefix old new b
front_same old new a b same appended =
    let front = λ (text : List ℕ). AppendsPrefix old new text in
    subst front same appended

-- the lines of two reports, one after the other
concat-append : (xs ys : List (List ℕ)) → concat (xs ++ ys) ≡ concat xs ++ concat ys
concat-append [] ys = refl
concat-append (x ∷ xs) ys = ap (λ z. x ++ z) (concat-append xs ys) ∙ sym (append_assoc x (concat xs) (concat ys))

-- the lines up to a place, the line there, and those after it
pub concat_at : (lines : List (List ℕ)) (k : ℕ) (line : List ℕ) (rest : List (List ℕ)) → drop k lines ≡ line ∷ rest → concat lines ≡ concat (take k lines) ++ (line ++ concat rest)
concat_at lines k line rest at =
    ap concat (sym (take-append-drop k lines)) ∙ (concat-append (take k lines) (drop k lines) ∙ ap (λ z. concat (take k lines) ++ concat z) at)

-- the lines up to and with that at a place
pub concat_more : (lines : List (List ℕ)) (k : ℕ) (line : List ℕ) (rest : List (List ℕ)) → drop k lines ≡ line ∷ rest → concat (take k lines) ++ line ≡ concat (take (k + 1) lines)
concat_more lines k line rest at =
    let more : take (k + 1) lines ≡ take k lines ++ line ∷ [] = take-add k 1 lines ∙ ap (λ z. take k lines ++ take 1 z) at in
    let one : line ++ [] ≡ line = append-nil line in
    sym (ap concat more ∙ (concat-append (take k lines) (line ∷ []) ∙ ap (λ z. concat (take k lines) ++ z) one))

-- the lines after that
pub drop_one : (lines : List (List ℕ)) (k : ℕ) (line : List ℕ) (rest : List (List ℕ)) → drop k lines ≡ line ∷ rest → drop (k + 1) lines ≡ rest
drop_one lines k line rest at = sym (drop-drop 1 k lines) ∙ ap (drop 1) at

-- a prefix of a text that ends in a prefix of its second part
front : (a b c : List ℕ) (n : ℕ) → a ++ take n b ≡ take (length a + length (take n b)) (a ++ (b ++ c))
front a b c n =
    let parts : b ++ c ≡ take n b ++ (drop n b ++ c) = ap (λ z. z ++ c) (sym (take-append-drop n b)) ∙ append_assoc (take n b) (drop n b) c in
    sym (take-append-add a (b ++ c) (length (take n b)) ∙ ap (λ z. a ++ z) (ap (take (length (take n b))) parts ∙ take-append_seam (take n b) (drop n b ++ c)))

-- a prefix of a piece behind another piece is a prefix of both and what follows
pub front_after : (old mid new : Option (List ℕ)) (a b c : List ℕ) → Appends old mid a → AppendsPrefix mid new b → AppendsPrefix old new (a ++ (b ++ c))
front_after old mid new a b c first second =
    let n = length a + length (take second.0 b) in
    (n, appends_same old new (a ++ take second.0 b) (take n (a ++ (b ++ c))) (front a b c second.0) (appends_then old mid new a (take second.0 b) first second.1))

-- a prefix of a piece behind another piece is a prefix of both
pub front_behind : (old mid new : Option (List ℕ)) (a b : List ℕ) → Appends old mid a → AppendsPrefix mid new b → AppendsPrefix old new (a ++ b)
front_behind old mid new a b first second =
    front_same old new (a ++ (b ++ [])) (a ++ b) (ap (λ z. a ++ z) (append-nil b)) (front_after old mid new a b [] first second)
