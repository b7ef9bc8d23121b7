-- The longest of five applied lists.
use Rattle.std.proofs.Common.{◌≡◌, ℕ, ◌+◌, ◌<◌, ◌≤◌, ◌⊎◌, inl, inr, if◌then◌else◌, nat_lt, Some, List, [], ◌∷◌, ◌++◌, length, subst, sym, ◌∙◌, ap, arith, refl, length-append, append_assoc}
use Rattle.std.specs.List.{slice_get}
use Rattle.std.proofs.lemmas.Bool.{cases_Bool, ltb-true, ltb-false}
use Rattle.std.proofs.lemmas.List.{append-nil}
use Rattle.arc_data.specs.declared.command.Command.{Command}
use Rattle.arc_voting.specs.Journals.{Journals}
use Rattle.arc_voting.specs.Laws.{Begins, LongestIsOne, EachBeginsTheLongest, LongestAreChosen, LongestOnlyGrows}
use Rattle.arc_voting.specs.Lists.{applied, longer, longest}
use Rattle.arc_voting.proofs.Agreeing.{applied_is_chosen, sound_history}
use Rattle.arc_voting.proofs.Facts.{facts_of}
use Rattle.arc_voting.proofs.Three.{below_five}

-- the longer of two lists is one of them, and no shorter than either
longer_cases : (xs ys : List Command) →
    ((longer xs ys ≡ xs) × (length ys ≤ length xs)) ⊎ ((longer xs ys ≡ ys) × (length xs ≤ length ys))
longer_cases xs ys =
    elim (cases_Bool (nat_lt (length xs) (length ys))) [
      | inl more ↦
          (let lt : length xs < length ys = ltb-true (length xs) (length ys) more in
          let le : length xs ≤ length ys = omega (arith, lt) in
          inr (ap (λ b. if b then ys else xs) more, le))
      | inr less ↦ inl (ap (λ b. if b then ys else xs) less, ltb-false (length xs) (length ys) less)
    ]

longer_first : (xs ys : List Command) → length xs ≤ length (longer xs ys)
longer_first xs ys =
    elim (longer_cases xs ys) [
      | inl (is, le) ↦ (let l : length (longer xs ys) ≡ length xs = ap length is in omega (arith, l))
      | inr (is, le) ↦ (let l : length (longer xs ys) ≡ length ys = ap length is in omega (arith, l, le))
    ]

longer_second : (xs ys : List Command) → length ys ≤ length (longer xs ys)
longer_second xs ys =
    elim (longer_cases xs ys) [
      | inl (is, le) ↦ (let l : length (longer xs ys) ≡ length xs = ap length is in omega (arith, l, le))
      | inr (is, le) ↦ (let l : length (longer xs ys) ≡ length ys = ap length is in omega (arith, l))
    ]

-- one of the five lists
abbrev IsOneOf : Journals → List Command → Type 0
IsOneOf js xs = (node : ℕ) × (node < 5) × (xs ≡ applied (js node))

longer_is_one : (js : Journals) (xs ys : List Command) → IsOneOf js xs → IsOneOf js ys → IsOneOf js (longer xs ys)
longer_is_one js xs ys (n, lt, e) (m, less, f) =
    elim (longer_cases xs ys) [ inl (is, le) ↦ (n, lt, is ∙ e) | inr (is, le) ↦ (m, less, is ∙ f) ]

own_list : (js : Journals) (node : ℕ) → node < 5 → IsOneOf js (applied (js node))
own_list js node lt = (node, lt, refl)

-- the longest of the first lists, by node
abbrev upto_one : Journals → List Command
upto_one js = longer (applied (js 0)) (applied (js 1))

abbrev upto_two : Journals → List Command
upto_two js = longer (upto_one js) (applied (js 2))

abbrev upto_three : Journals → List Command
upto_three js = longer (upto_two js) (applied (js 3))

pub longest_is_one : LongestIsOne
longest_is_one js =
    longer_is_one js (upto_three js) (applied (js 4))
    (longer_is_one js (upto_two js) (applied (js 3))
    (longer_is_one js (upto_one js) (applied (js 2))
    (longer_is_one js (applied (js 0)) (applied (js 1)) (own_list js 0 (omega arith)) (own_list js 1 (omega arith)))
    (own_list js 2 (omega arith))) (own_list js 3 (omega arith))) (own_list js 4 (omega arith))

-- no list is longer
none_longer : (js : Journals) (node : ℕ) → node < 5 → length (applied (js node)) ≤ length (longest js)
none_longer js node lt =
    let a : length (applied (js 0)) ≤ length (upto_one js) = longer_first (applied (js 0)) (applied (js 1)) in
    let b : length (applied (js 1)) ≤ length (upto_one js) = longer_second (applied (js 0)) (applied (js 1)) in
    let c : length (upto_one js) ≤ length (upto_two js) = longer_first (upto_one js) (applied (js 2)) in
    let d : length (applied (js 2)) ≤ length (upto_two js) = longer_second (upto_one js) (applied (js 2)) in
    let e : length (upto_two js) ≤ length (upto_three js) = longer_first (upto_two js) (applied (js 3)) in
    let f : length (applied (js 3)) ≤ length (upto_three js) = longer_second (upto_two js) (applied (js 3)) in
    let g : length (upto_three js) ≤ length (longest js) = longer_first (upto_three js) (applied (js 4)) in
    let h : length (applied (js 4)) ≤ length (longest js) = longer_second (upto_three js) (applied (js 4)) in
    below_five (λ n. length (applied (js n)) ≤ length (longest js)) (omega (arith, a, c, e, g)) (omega (arith, b, c, e, g))
    (omega (arith, d, e, g)) (omega (arith, f, g)) h node lt

-- of two lists of which one begins the other, one that is no longer begins the other
no_longer : (xs ys rest : List Command) → ys ++ rest ≡ xs → length xs ≤ length ys → Begins xs ys
no_longer xs ys [] is le = ([], append-nil xs ∙ sym is ∙ append-nil ys)
no_longer xs ys (x ∷ rest) is le =
    let l : length xs ≡ length ys + length (x ∷ rest) = sym (ap length is) ∙ length-append ys (x ∷ rest) in
    let m : length (x ∷ rest) ≡ length rest + 1 = omega arith in
    absurd (omega (arith, l, m, le))

begins_by_length : (xs ys : List Command) → Begins xs ys ⊎ Begins ys xs → length xs ≤ length ys → Begins xs ys
begins_by_length xs ys (inl begins) le = begins
begins_by_length xs ys (inr (rest, is)) le = no_longer xs ys rest is le

pub begins_further : (xs ys zs : List Command) → Begins xs ys → Begins ys zs → Begins xs zs
begins_further xs ys zs (rest, is) (more, further) =
    (rest ++ more, sym (append_assoc xs rest more) ∙ ap (λ vs. vs ++ more) is ∙ further)

pub each_begins_the_longest : EachBeginsTheLongest
each_begins_the_longest js node sound lt =
    let one : (n : ℕ) × (n < 5) × (longest js ≡ applied (js n)) = longest_is_one js in
    let P : List Command → Type 0 = λ xs. Begins (applied (js node)) xs in
    let l : length (longest js) ≡ length (applied (js one.0)) = ap length one.2 in
    subst P (sym one.2)
    (begins_by_length (applied (js node)) (applied (js one.0)) (sound_history js sound node one.0 lt one.1)
    (omega (arith, l, none_longer js node lt)))

pub longest_are_chosen : LongestAreChosen
longest_are_chosen js slot c sound at =
    let one : (n : ℕ) × (n < 5) × (longest js ≡ applied (js n)) = longest_is_one js in
    let P : List Command → Type 0 = λ xs. slice_get xs slot ≡ Some c in
    applied_is_chosen js (facts_of js sound) one.0 slot c one.1 (subst P one.2 at)

pub longest_only_grows : LongestOnlyGrows
longest_only_grows js ks sound grew =
    let one : (n : ℕ) × (n < 5) × (longest js ≡ applied (js n)) = longest_is_one js in
    let P : List Command → Type 0 = λ xs. Begins xs (longest ks) in
    subst P (sym one.2)
    (begins_further (applied (js one.0)) (applied (ks one.0)) (longest ks) (grew one.0 one.1)
    (each_begins_the_longest ks one.0 sound one.1))
