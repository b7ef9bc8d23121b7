-- Numbers in decimal digits.
use Rattle.std.proofs.Common.{◌≡◌, ◌≢◌, ℕ, ◌+◌, ◌-◌, ◌<◌, ◌^◌, ◌==◌, ◌&&◌, Bool, true, false, leb, List, [], ◌∷◌, ◌++◌, length, take, Option, Some, None, option_map, Bor, MatchOption, Err, inl, inr, refl, sym, ap, ◌∙◌, arith}
use Rattle.std.specs.Char.{is_ascii_digit}
use Rattle.std.specs.List.{list_all}
use Rattle.std.specs.Str.{all_ascii_digits}
use Rattle.std.specs.Str.Parse.{ParsesUnsigned, digits_value}
use Rattle.std.proofs.lemmas.Bool.{and_parts, cases_Bool, cases_lt, eq-eqb, eqb-true, lt-leb}
use Rattle.std.proofs.lemmas.Str.Pattern.{strip_suffix_char}
use Rattle.std.specs.Str.Pattern.{FindsCharSuffix}
use Rattle.std.proofs.lemmas.Str.Parse.{IsNumeralModel, numerals_by_value, parse_digits, tells_all_ascii_digits}
use Rattle.arc_members.specs.Times.{before_last, begins_above_0, positive}

-- the test of digits, as `all` computes it
pub digits_by_all : (word : List ℕ) → all_ascii_digits word ≡ list_all is_ascii_digit word
digits_by_all [] = refl
digits_by_all (digit ∷ word) = ap (λ b. is_ascii_digit digit && b) (digits_by_all word)

-- digits and their value, as std's lemmas take them
numerals : IsNumeralModel (λ word. all_ascii_digits word ≡ true) (digits_value 10)
numerals = numerals_by_value _ tells_all_ascii_digits

-- what begins with 1 to 9 has digits alone, and one at least
pub above_0_digits : (word : List ℕ) → begins_above_0 word ≡ true → (all_ascii_digits word ≡ true) × (0 < length word)
above_0_digits [] is = absurd cc
above_0_digits (digit ∷ word) is = ((and_parts _ _ is).1, omega arith)

and_no : (b : Bool) → (b && false) ≡ false
and_no true = refl
and_no false = refl

-- a number that `parse` refuses has more than 32 bits, so that it is above each limit of 32 bits
pub above_32_bits : {E : Type 0} (most : ℕ) (word : List ℕ) (error : E) → most < 2 ^ 32 → begins_above_0 word ≡ true →
    ParsesUnsigned 32 10 word (Err error) → positive most word ≡ None
unfolding positive
above_32_bits most word error low is parsed =
    let digits = above_0_digits word is in
    let refused : (0 < length word) × (digits_value 10 word < 2 ^ 32) → ⊥ = parse_digits numerals 32 word (Err error) parsed digits.0 in
    elim (cases_lt (digits_value 10 word) (2 ^ 32)) [
      | inl small ↦ absurd (refused (digits.1, small))
      | inr large ↦
          let above : leb (digits_value 10 word) most ≡ false = lt-leb _ _ (omega arith) in
          let outside : (leb 1 (digits_value 10 word) && leb (digits_value 10 word) most) ≡ false = rw above (and_no (leb 1 (digits_value 10 word))) in
          rw (is, outside) refl
    ]

-- ---- the last byte

-- what is cut off its last byte
cut_is : (unit : ℕ) (front : List ℕ) → before_last unit (front ++ unit ∷ []) ≡ Some front
unfolding before_last
cut_is unit [] = rw (eq-eqb unit unit refl) refl
cut_is unit (b ∷ []) = rw (eq-eqb unit unit refl) refl
cut_is unit (b ∷ c ∷ front) = ap (option_map (λ text. b ∷ text)) (cut_is unit (c ∷ front))

-- what is cut has that last byte
has_last : (unit : ℕ) (text front : List ℕ) → before_last unit text ≡ Some front → text ≡ front ++ unit ∷ []
unfolding before_last
has_last unit [] front is = absurd cc
has_last unit (b ∷ []) front is =
    elim (cases_Bool (b == unit)) [
      | inl same ↦
          let nothing : Some [] ≡ Some front = rw same at is in
          let e : [] ≡ front = cc in
          let u : b ≡ unit = eqb-true b unit same in
          rw (← e, u) refl
      | inr other ↦ let absent : None ≡ Some front = rw other at is in absurd cc
    ]
has_last unit (b ∷ c ∷ text) front is = behind (before_last unit (c ∷ text)) (λ others found. has_last unit (c ∷ text) others found) refl is
  where
    behind : (o : Option (List ℕ)) → ((others : List ℕ) → before_last unit (c ∷ text) ≡ Some others → c ∷ text ≡ others ++ unit ∷ []) →
        before_last unit (c ∷ text) ≡ o → option_map (λ others. b ∷ others) o ≡ Some front → b ∷ c ∷ text ≡ front ++ unit ∷ []
    behind None shorter found cut = absurd cc
    behind (Some others) shorter found cut =
        let e : b ∷ others ≡ front = cc in
        rw (← e) (ap (λ xs. b ∷ xs) (shorter others found))

uncut : (unit : ℕ) (text : List ℕ) (o : Option (List ℕ)) → before_last unit text ≡ o → ((front : List ℕ) → text ≢ front ++ unit ∷ []) → None ≡ o
uncut unit text None is never = refl
uncut unit text (Some front) is never = absurd (never front (has_last unit text front is))

-- what `strip_suffix` answers
pub cut_off : (unit : ℕ) (text : List ℕ) (r : Option (Bor (List ℕ))) →
    MatchOption r (FindsCharSuffix unit text None) (λ x. (n : ℕ) × FindsCharSuffix unit text (Some n) × (x.now ≡ take (length text - n) text) × (length x.now + n ≡ length text)) →
    unit < 128 → option_map (λ x. x.now) r ≡ before_last unit text
cut_off unit text r says small = by_cases r (strip_suffix_char unit text r says small)
  where
    by_cases : (r : Option (Bor (List ℕ))) → MatchOption r ((front : List ℕ) → text ≢ front ++ unit ∷ []) (λ x. text ≡ x.now ++ unit ∷ []) → option_map (λ x. x.now) r ≡ before_last unit text
    by_cases None never = uncut unit text (before_last unit text) refl never
    by_cases (Some x) is = sym (ap (before_last unit) is ∙ cut_is unit x.now)
