-- The text of a script, put together piece by piece.
use Rattle.std.proofs.Common.{◌≡◌, ℕ, suc, ◌+◌, ◌/◌, List, [], ◌∷◌, ◌++◌, refl, sym, ap, ◌∙◌, subst, arith}
use Rattle.std.specs.Prelude.{codes}
use Rattle.std.proofs.lemmas.List.{append-nil, append_assoc}
use Rattle.arc_gen.specs.Script.{drawn, drawn_line, drawn_lines, ended, first_lines, last_lines, next_drawn, script_text}

-- the text of some lines and others is that of the first and that of the others
pub ended_append : (lines others : List (List ℕ)) → ended (lines ++ others) ≡ ended lines ++ ended others
ended_append [] others = refl
ended_append (line ∷ lines) others =
    ap (λ rest. line ++ codes "\n" ++ rest) (ended_append lines others)
    ∙ sym (append_assoc (line ++ codes "\n") (ended lines) (ended others))

-- the whole text has three pieces
pub whole : (size : ℕ) → script_text size ≡ ended first_lines ++ ended (drawn_lines size size) ++ ended last_lines
unfolding script_text
whole size =
    ended_append (first_lines ++ drawn_lines size size) last_lines
    ∙ ap (λ front. front ++ ended last_lines) (ended_append first_lines (drawn_lines size size))

-- nothing is drawn yet
pub none_drawn : (size : ℕ) (front : List ℕ) → front ≡ front ++ ended (drawn_lines size 0)
unfolding drawn_lines
none_drawn size front = sym (append-nil front)

-- what begins is the size itself
pub size_is_first : (size : ℕ) → size ≡ drawn size 0
unfolding drawn
size_is_first size = refl

-- the number at the next place is drawn behind the one at this place
pub next_is_drawn : (size place number : ℕ) → number ≡ drawn size place → next_drawn number ≡ drawn size (place + 1)
unfolding drawn
next_is_drawn size place number is =
    let next : place + 1 ≡ suc place = omega arith in
    subst (λ p. next_drawn number ≡ drawn size p) (sym next) (ap next_drawn is)

-- one more drawn line
pub one_more : (size place number : ℕ) (front old new : List ℕ) → number ≡ drawn size (place + 1) → old ≡ front ++ ended (drawn_lines size place)
    → new ≡ old ++ drawn_line (place + 1) (number / 65536) ++ codes "\n" → new ≡ front ++ ended (drawn_lines size (place + 1))
unfolding drawn_lines
one_more size place number front old new is before after =
    let next : place + 1 ≡ suc place = omega arith in
    let so_far : List ℕ = ended (drawn_lines size place) in
    let one : List ℕ = drawn_line (suc place) (drawn size (suc place) / 65536) in
    let one_is : drawn_line (place + 1) (number / 65536) ≡ one =
    ap (λ n. drawn_line (place + 1) (n / 65536)) is ∙ ap (λ p. drawn_line p (drawn size p / 65536)) next in
    let grown : ended (drawn_lines size place ++ one ∷ []) ≡ so_far ++ (one ++ codes "\n") =
    ended_append (drawn_lines size place) (one ∷ []) ∙ ap (λ rest. so_far ++ rest) (append-nil (one ++ codes "\n")) in
    subst (λ p. new ≡ front ++ ended (drawn_lines size p)) (sym next)
    (after ∙ ap (λ l. old ++ l ++ codes "\n") one_is ∙ ap (λ o. o ++ one ++ codes "\n") before
    ∙ append_assoc (front ++ so_far) one (codes "\n") ∙ append_assoc front so_far (one ++ codes "\n")
    ∙ ap (λ rest. front ++ rest) (sym grown))
