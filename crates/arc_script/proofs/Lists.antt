-- Lists of items: how many there are, and that their numbers differ.
use Rattle.std.proofs.Common.{◌≡◌, ◌≢◌, ℕ, ◌+◌, ◌<◌, ◌≤◌, ◌==◌, ◌&&◌, Bool, true, false, cond, leb, List, [], ◌∷◌, ◌++◌, length, map, Result, Ok, Err, inl, inr, refl, sym, ap, ◌∙◌, append_assoc, arith}
use Rattle.std.specs.Prelude.{AllPairs, IfOk, count_by}
use Rattle.std.specs.List.{AllByRecursion, list_any, slice_split}
use Rattle.std.proofs.lemmas.Bool.{eq-eqb, ltb-false, or_parts}
use Rattle.std.proofs.lemmas.List.{append-nil}
use Rattle.std.proofs.lemmas.List.Elements.{All-from_recursion}
use Rattle.std.proofs.lemmas.List.Kept.{AllPairs-cons}
use Rattle.std.proofs.lemmas.List.Splits.{length-slice_split}
use Rattle.std.proofs.lemmas.List.Sums.{sum_by-cons}
use Rattle.arc_script.specs.declared.step.ScriptCode.{ScriptCode}
use Rattle.arc_script.specs.Chain.{◌>>=◌}
use Rattle.arc_script.specs.Lists.{each, is_doubled, has_double}
use Rattle.arc_script.specs.Reading.{behind}

-- ---- reading

-- an item goes from those that are still read to those that were read
regroup : {A : Type 0} (front : List A) (x : A) (read : Result (List A) ScriptCode)
    → behind front (read >>= λ xs. Ok (x ∷ xs)) ≡ behind (front ++ x ∷ []) read
regroup front x (Ok xs) = ap Ok (simp append_assoc)
regroup front x (Err code) = refl

pub one_read : {A : Type 0} (meaning : List ℕ → Result A ScriptCode) (front : List A) (item : List ℕ) (items : List (List ℕ)) (x : A) (whole : Result (List A) ScriptCode)
    → meaning item ≡ Ok x → behind front (each meaning (item ∷ items)) ≡ whole → behind (front ++ x ∷ []) (each meaning items) ≡ whole
one_read meaning front item items x whole read so_far =
    let one : behind front (each meaning (item ∷ items)) ≡ behind (front ++ x ∷ []) (each meaning items) = rw read (regroup front x (each meaning items)) in
    sym one ∙ so_far

pub one_fails : {A : Type 0} (meaning : List ℕ → Result A ScriptCode) (front : List A) (item : List ℕ) (items : List (List ℕ)) (code : ScriptCode) (whole : Result (List A) ScriptCode)
    → meaning item ≡ Err code → behind front (each meaning (item ∷ items)) ≡ whole → whole ≡ Err code
one_fails meaning front item items code whole fails so_far =
    let one : behind front (each meaning (item ∷ items)) ≡ Err code = rw fails refl in
    sym so_far ∙ one

pub all_read : {A : Type 0} (front : List A) (whole : Result (List A) ScriptCode) → behind front (Ok []) ≡ whole → whole ≡ Ok front
all_read front whole so_far = sym so_far ∙ ap Ok (append-nil front)

-- a text has at least one part
pub some_part : {V E : Type 0} (parts : V → List (List ℕ)) (count : V → ℕ) → ((v : V) → count v ≡ length (parts v)) → (p : ℕ → Bool) (text : List ℕ) (read : Result V E)
    → IfOk read (λ v. parts v ≡ slice_split p text) → IfOk read (λ v. 1 ≤ count v)
some_part parts count counts p text (Ok v) is = let n : length (parts v) ≡ length (slice_split p text) = ap length is in omega (arith, counts v, length-slice_split p text)
some_part parts count counts p text (Err e) is = tt

-- ---- doubles

counts_one : {A : Type 0} (p : A → Bool) (x : A) (xs : List A) → p x ≡ true → count_by p (x ∷ xs) ≡ 1 + count_by p xs
counts_one p x xs is = sum_by-cons (λ y. cond (p y) 1 0) x xs ∙ ap (λ b. cond b 1 0 + count_by p xs) is

counts_more : {A : Type 0} (p : A → Bool) (x : A) (xs : List A) → count_by p xs ≤ count_by p (x ∷ xs)
counts_more p x xs = let sum : count_by p (x ∷ xs) ≡ cond (p x) 1 0 + count_by p xs = sum_by-cons (λ y. cond (p y) 1 0) x xs in omega arith

-- where no item has a number, all differ from it
apart : {A : Type 0} (number : A → ℕ) (n : ℕ) (xs : List A) → count_by (λ y. number y == n) xs ≡ 0 → AllByRecursion (λ y. n ≢ number y) xs
apart number n [] none = tt
apart number n (y ∷ ys) none =
    let differs : n ≢ number y =
    λ same. (let one : count_by (λ x. number x == n) (y ∷ ys) ≡ 1 + count_by (λ x. number x == n) ys = counts_one (λ x. number x == n) y ys (eq-eqb (number y) n (sym same)) in omega arith) in
    let fewer : count_by (λ x. number x == n) ys ≤ count_by (λ x. number x == n) (y ∷ ys) = counts_more (λ x. number x == n) y ys in
    (differs, apart number n ys (omega arith))

-- numbers of which each stands at most once in the whole list differ in a part of it
part_differs : {A : Type 0} (number : A → ℕ) (whole xs : List A) → list_any (λ x. is_doubled number whole (number x)) xs ≡ false
    → ((n : ℕ) → count_by (λ y. number y == n) xs ≤ count_by (λ y. number y == n) whole) → AllPairs (λ a b. number a ≢ number b) xs
unfolding is_doubled
part_differs number whole [] none part = λ i j d lt within. absurd (omega arith)
part_differs number whole (x ∷ xs) none part =
    let tests = or_parts (is_doubled number whole (number x)) (list_any (λ y. is_doubled number whole (number y)) xs) none in
    let single : count_by (λ y. number y == number x) whole ≤ 1 = ltb-false 1 (count_by (λ y. number y == number x) whole) tests.0 in
    let own : count_by (λ y. number y == number x) (x ∷ xs) ≡ 1 + count_by (λ y. number y == number x) xs = counts_one (λ y. number y == number x) x xs (eq-eqb (number x) (number x) refl) in
    let most : count_by (λ y. number y == number x) (x ∷ xs) ≤ count_by (λ y. number y == number x) whole = part (number x) in
    AllPairs-cons (λ a b. number a ≢ number b) x xs (All-from_recursion (λ y. number x ≢ number y) xs (apart number (number x) xs (omega arith)))
    (part_differs number whole xs tests.1 (λ n. let fewer : count_by (λ y. number y == n) xs ≤ count_by (λ y. number y == n) (x ∷ xs) = counts_more (λ y. number y == n) x xs in let all : count_by (λ y. number y == n) (x ∷ xs) ≤ count_by (λ y. number y == n) whole = part n in omega arith))

-- a list without a double
pub differs : {A : Type 0} (number : A → ℕ) (xs : List A) → has_double number xs ≡ false → AllPairs (λ a b. number a ≢ number b) xs
differs number xs none = part_differs number xs xs none (λ n. omega arith)
