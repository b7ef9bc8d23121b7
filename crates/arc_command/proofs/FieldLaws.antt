-- Fields: what is read is what stands there, and what stands there is read.
use Rattle.std.proofs.Common.{◌≡◌, ℕ, ◌+◌, ◌<◌, Bool, true, false, cond, List, ◌++◌, length, get_or, take, drop, Result, Ok, Err, refl, sym, ap, subst, ◌∙◌, append_assoc, arith, inl, inr}
use Rattle.std.proofs.lemmas.Bool.{cases_lt}
use Rattle.std.proofs.lemmas.List.{drop_at, drop-drop, length-append, get_or-drop, get_or-take, get_or_past, length-take}
use Rattle.arc_command.specs.Reader.{Reader, ◌>>=◌, pair, depends, mapped, within}

-- each is a byte
abbrev pub IsBytes : List ℕ → Type 0
IsBytes bytes = (i : ℕ) → get_or bytes i 0 < 256

pub IsBytes-drop : (n : ℕ) (bytes : List ℕ) → IsBytes bytes → IsBytes (drop n bytes)
IsBytes-drop n bytes are i = rw get_or-drop (are (n + i))

pub IsBytes-take : (n : ℕ) (bytes : List ℕ) → IsBytes bytes → IsBytes (take n bytes)
IsBytes-take n bytes are i =
    elim (cases_lt i n) [
      | inl lt ↦ rw (get_or-take n bytes i 0 lt) (are i)
      | inr le ↦ rw (get_or_past (take n bytes) i 0 (omega (arith, length-take n bytes))) (omega arith)
    ]

-- the value of a step that could be read
pub bind_ok : {A B : Type 0} (r : Result A ℕ) (f : A → Result B ℕ) (y : B) → (r >>= f) ≡ Ok y → (x : A) × (r ≡ Ok x) × (f x ≡ Ok y)
bind_ok (Ok x) f y e = (x, refl, e)
bind_ok (Err place) f y e = absurd cc

-- a test that was passed
pub passed : {A : Type 0} (b : Bool) (place : ℕ) (x y : A) → cond b (Ok x) (Err place) ≡ Ok y → (b ≡ true) × (x ≡ y)
passed true place x y e = (refl, cc)
passed false place x y e = absurd cc

abbrev done : {A : Type 0} → A → Result A ℕ
done x = Ok x

pub ok_is : {A : Type 0} (x y : A) → done x ≡ done y → x ≡ y
ok_is x y e = cc

-- A text stands in the bytes from a place on, up to the other.
pub record Stands (bytes : List ℕ) (at : ℕ) (text : List ℕ) (after : ℕ) : Type 0 where
  pub parts : drop at bytes ≡ text ++ drop after bytes
  pub place : after ≡ at + length text

-- What is read stands there, and fits.
abbrev pub Taken : {A : Type 0} → Reader A → (A → List ℕ) → (A → Type 0) → Type 0
Taken {A = A} read text Fits = (bytes : List ℕ) (at : ℕ) (x : A) (after : ℕ) → IsBytes bytes →
    read bytes at ≡ Ok (x, after) → Stands bytes at (text x) after × Fits x

-- What fits and stands there is read, whatever follows it.
abbrev pub Again : {A : Type 0} → Reader A → (A → List ℕ) → (A → Type 0) → Type 0
Again {A = A} read text Fits = (bytes : List ℕ) (at : ℕ) (x : A) (rest : List ℕ) → Fits x →
    drop at bytes ≡ text x ++ rest → read bytes at ≡ Ok (x, at + length (text x))

pub record IsField {A : Type 0} (read : Reader A) (text : A → List ℕ) (Fits : A → Type 0) : Type 0 where
  pub taken : Taken read text Fits
  pub again : Again read text Fits

-- what follows a text
pub behind_text : (bytes : List ℕ) (at : ℕ) (text rest : List ℕ) → drop at bytes ≡ text ++ rest → drop (at + length text) bytes ≡ rest
behind_text bytes at text rest e =
    sym (drop-drop (length text) at bytes) ∙ ap (drop (length text)) e ∙ drop_at text rest (length text) refl

-- one text, and the next one
pub Stands-then : (bytes : List ℕ) (at : ℕ) (a : List ℕ) (middle : ℕ) (b : List ℕ) (after : ℕ) →
    Stands bytes at a middle → Stands bytes middle b after → Stands bytes at (a ++ b) after
Stands-then bytes at a middle b after p q = record {
  parts = p.parts ∙ ap (λ (t : List ℕ). a ++ t) q.parts ∙ sym (append_assoc a b (drop after bytes));
  place = omega (arith, p.place, q.place, length-append a b);
}

-- ---- one after the other

-- the second in view of the first
pub depends_field : {A B : Type 0} {first : Reader A} {second : A → Reader B} {t : A → List ℕ} {u : B → List ℕ}
    {F : A → Type 0} {G : A → B → Type 0} → IsField first t F → ((a : A) → F a → IsField (second a) u (G a)) →
    IsField (depends first second) (λ (x : A × B). t x.0 ++ u x.1) (λ (x : A × B). F x.0 × G x.0 x.1)
depends_field {A = A} {B = B} {first = first} {second = second} {t = t} {u = u} {F = F} {G = G} p q = record {
  taken = λ bytes at x after are e.
      let a = bind_ok (first bytes at) (λ (x : A × ℕ). second x.0 bytes x.1 >>= λ (y : B × ℕ). Ok ((x.0, y.0), y.1)) (x, after) e in
      let b = bind_ok (second a.0.0 bytes a.0.1) (λ (y : B × ℕ). Ok ((a.0.0, y.0), y.1)) (x, after) a.2 in
      let s = p.taken bytes at a.0.0 a.0.1 are a.1 in
      let next : IsField (second a.0.0) u (G a.0.0) = q a.0.0 s.1 in
      let z = next.taken bytes a.0.1 b.0.0 b.0.1 are b.1 in
      let whole = Stands-then bytes at (t a.0.0) a.0.1 (u b.0.0) b.0.1 s.0 z.0 in
      let made : (A × B) × ℕ = ((a.0.0, b.0.0), b.0.1) in
      subst (λ (y : (A × B) × ℕ). Stands bytes at (t y.0.0 ++ u y.0.1) y.1 × (F y.0.0 × G y.0.0 y.0.1)) (ok_is made (x, after) b.2) (whole, (s.1, z.1));
  again = λ bytes at x rest fits e.
      let whole : drop at bytes ≡ t x.0 ++ (u x.1 ++ rest) = e ∙ append_assoc (t x.0) (u x.1) rest in
      let one = p.again bytes at x.0 (u x.1 ++ rest) fits.0 whole in
      let next : IsField (second x.0) u (G x.0) = q x.0 fits.0 in
      let two = next.again bytes (at + length (t x.0)) x.1 rest fits.1 (behind_text bytes at (t x.0) (u x.1 ++ rest) whole) in
      let place : (at + length (t x.0)) + length (u x.1) ≡ at + length (t x.0 ++ u x.1) = omega (arith, length-append (t x.0) (u x.1)) in
      rw (one, two) (ap (λ (n : ℕ). done (x, n)) place);
}

pub pair_field : {A B : Type 0} {first : Reader A} {second : Reader B} {t : A → List ℕ} {u : B → List ℕ}
    {F : A → Type 0} {G : B → Type 0} → IsField first t F → IsField second u G →
    IsField (pair first second) (λ (x : A × B). t x.0 ++ u x.1) (λ (x : A × B). F x.0 × G x.1)
pair_field {A = A} {B = B} {first = first} {second = second} {t = t} {u = u} {F = F} {G = G} p q =
    depends_field {A = A} {B = B} {first = first} {second = λ (a : A). second} {t = t} {u = u} {F = F} {G = λ (a : A). G} p (λ a f. q)

-- ---- what is made of a value

pub mapped_taken : {A B : Type 0} (f : A → B) (read : Reader A) (t : A → List ℕ) (u : B → List ℕ) (F : A → Type 0) (G : B → Type 0) →
    Taken read t F → ((x : A) → F x → u (f x) ≡ t x) → ((x : A) → F x → G (f x)) → Taken (mapped f read) u G
mapped_taken {A = A} {B = B} f read t u F G taken texts fits bytes at y after are e =
    let a = bind_ok (read bytes at) (λ (x : A × ℕ). Ok (f x.0, x.1)) (y, after) e in
    let s = taken bytes at a.0.0 a.0.1 are a.1 in
    let made : B × ℕ = (f a.0.0, a.0.1) in
    subst (λ (z : B × ℕ). Stands bytes at (u z.0) z.1 × G z.0) (ok_is made (y, after) a.2)
    (rw (texts a.0.0 s.1) s.0, fits a.0.0 s.1)

pub mapped_again : {A B : Type 0} (f : A → B) (read : Reader A) (t : A → List ℕ) (F : A → Type 0) → Again read t F →
    (bytes : List ℕ) (at : ℕ) (x : A) (rest : List ℕ) → F x → drop at bytes ≡ t x ++ rest →
    mapped f read bytes at ≡ Ok (f x, at + length (t x))
mapped_again f read t F again bytes at x rest fits e = rw (again bytes at x rest fits e) refl

-- where each fitting value is made of one
pub mapped_field : {A B : Type 0} {read : Reader A} {t : A → List ℕ} {F : A → Type 0} (f : A → B) (g : B → A) (u : B → List ℕ) (G : B → Type 0) →
    IsField read t F → ((x : A) → F x → u (f x) ≡ t x) → ((x : A) → F x → G (f x)) →
    ((y : B) → G y → (f (g y) ≡ y) × F (g y)) → IsField (mapped f read) u G
mapped_field {A = A} {B = B} {read = read} {t = t} {F = F} f g u G field texts fits back = record {
  taken = mapped_taken f read t u F G field.taken texts fits;
  again = λ bytes at y rest is e.
      let b = back y is in
      let same : u y ≡ t (g y) = ap u (sym b.0) ∙ texts (g y) b.1 in
      let one = mapped_again f read t F field.again bytes at (g y) rest b.1 (e ∙ ap (λ (w : List ℕ). w ++ rest) same) in
      one ∙ ap (λ (z : B). done (z, at + length (t (g y)))) b.0 ∙ ap (λ (w : List ℕ). done (y, at + length w)) (sym same);
}

-- what fits, in other words
pub refit : {A : Type 0} {read : Reader A} {t : A → List ℕ} {F : A → Type 0} (G : A → Type 0) → IsField read t F →
    ((x : A) → F x → G x) → ((x : A) → G x → F x) → IsField read t G
refit G field to from = record {
  taken = λ bytes at x after are e. let s = field.taken bytes at x after are e in (s.0, to x s.1);
  again = λ bytes at x rest fits e. field.again bytes at x rest (from x fits) e;
}

-- ---- limits

pub within_field : {A : Type 0} {read : Reader A} {t : A → List ℕ} {F : A → Type 0} (ok : A → Bool) →
    IsField read t F → IsField (within ok read) t (λ (x : A). F x × (ok x ≡ true))
within_field {A = A} {read = read} {t = t} {F = F} ok field = record {
  taken = λ bytes at x after are e.
      let a = bind_ok (read bytes at) (λ (x : A × ℕ). cond (ok x.0) (Ok x) (Err at)) (x, after) e in
      let s = field.taken bytes at a.0.0 a.0.1 are a.1 in
      let g = passed (ok a.0.0) at a.0 (x, after) a.2 in
      subst (λ (y : A × ℕ). Stands bytes at (t y.0) y.1 × (F y.0 × (ok y.0 ≡ true))) g.1 (s.0, (s.1, g.0));
  again = λ bytes at x rest fits e. rw (field.again bytes at x rest fits.0 e, fits.1) refl;
}
