-- Beginnings of one history.
use Rattle.std.proofs.Common.{◌≡◌, ℕ, List, [], ◌∷◌, ◌++◌, refl, sym, ap, ◌∙◌, append_assoc}
use mathlib.Core.List.{IsPrefix}
use Rattle.arc_turn.specs.History.{History, longer}

-- a list begins itself
pub begins_self : {A : Type 0} (xs : List A) → IsPrefix xs xs
begins_self [] = ([], refl)
begins_self (x ∷ xs) = let r = begins_self xs in (r.0, ap (λ ys. x ∷ ys) r.1)

-- what begins a beginning begins the whole
pub begins_trans : {A : Type 0} (xs ys zs : List A) → IsPrefix xs ys → IsPrefix ys zs → IsPrefix xs zs
begins_trans xs ys zs p q = (p.0 ++ q.0, sym (append_assoc xs p.0 q.0) ∙ (ap (λ w. w ++ q.0) p.1 ∙ q.1))

-- two histories that begin with one entry begin with one another as their rests do
begins_under : (e : List ℕ) (xs ys : History) → IsPrefix xs ys → IsPrefix (e ∷ xs) (e ∷ ys)
begins_under e xs ys p = (p.0, ap (λ zs. e ∷ zs) p.1)

begins_rest : (e f : List ℕ) (xs ys : History) → IsPrefix (e ∷ xs) (f ∷ ys) → IsPrefix xs ys
begins_rest e f xs ys p = (p.0, cc (p.1))

-- the longer of two beginnings of a history begins it
pub longer_begins : (a b log : History) → IsPrefix a log → IsPrefix b log → IsPrefix (longer a b) log
longer_begins [] b log p q = q
longer_begins (e ∷ a) [] log p q = p
longer_begins (e ∷ a) (f ∷ b) [] p q = absurd (cc (p.1))
longer_begins (e ∷ a) (f ∷ b) (g ∷ log) p q =
    let same : e ≡ g = cc (p.1) in
    let r = longer_begins a b log (begins_rest e g a log p) (begins_rest f g b log q) in
    (r.0, cc (same, r.1))

-- each of two beginnings of a history begins the longer of them
pub first_begins : (a b log : History) → IsPrefix a log → IsPrefix b log → IsPrefix a (longer a b)
first_begins [] b log p q = (b, refl)
first_begins (e ∷ a) [] log p q = begins_self (e ∷ a)
first_begins (e ∷ a) (f ∷ b) [] p q = absurd (cc (p.1))
first_begins (e ∷ a) (f ∷ b) (g ∷ log) p q =
    begins_under e a (longer a b) (first_begins a b log (begins_rest e g a log p) (begins_rest f g b log q))

pub second_begins : (a b log : History) → IsPrefix a log → IsPrefix b log → IsPrefix b (longer a b)
second_begins [] b log p q = begins_self b
second_begins (e ∷ a) [] log p q = (e ∷ a, refl)
second_begins (e ∷ a) (f ∷ b) [] p q = absurd (cc (p.1))
second_begins (e ∷ a) (f ∷ b) (g ∷ log) p q =
    let same : f ≡ e = cc (p.1, q.1) in
    let r = second_begins a b log (begins_rest e g a log p) (begins_rest f g b log q) in
    (r.0, cc (same, r.1))

-- a history that begins another and is begun by it is the other
pub begins_back : (a b : History) → IsPrefix a b → IsPrefix b a → a ≡ b
begins_back [] [] p q = refl
begins_back [] (f ∷ b) p q = absurd (cc (q.1))
begins_back (e ∷ a) [] p q = absurd (cc (p.1))
begins_back (e ∷ a) (f ∷ b) p q =
    let same : e ≡ f = cc (p.1) in
    let r = begins_back a b (begins_rest e f a b p) (begins_rest f e b a q) in
    cc (same, r)
