-- Numbers and their one spelling.
use Rattle.std.proofs.Common.{◌≡◌, ℕ, ◌<◌, ◌^◌, ◌==◌, true, false, List, [], ◌∷◌, length, get_or, Some, None, inl, inr, refl, sym, ap, ◌∙◌, arith}
use Rattle.std.specs.Fmt.{decimal}
use Rattle.std.specs.Str.{all_ascii_digits}
use Rattle.std.specs.Str.Parse.{digits_value}
use Rattle.std.proofs.lemmas.Bool.{and_from, and_parts, cases_Bool, cases_lt, eq-eqb, ne_eqb, not-true, not_from_false}
use Rattle.std.proofs.lemmas.Fmt.{decimal_digit, decimal_nonempty, first_decimal, digits_decimal, digits_value-decimal, decimal-digits_value}
use Rattle.std.proofs.lemmas.Str.Parse.{IsNumeralModel, numerals_by_value, tells_all_ascii_digits}
use Rattle.arc_script.specs.Words.{is_number, number_of}

-- digits and their value, as std's lemmas take them
pub numerals : IsNumeralModel (λ word. all_ascii_digits word ≡ true) (digits_value 10)
numerals = numerals_by_value _ tells_all_ascii_digits

-- what begins with 0 is 0
abbrev NoLeadingZero : List ℕ → Type 0
NoLeadingZero word = get_or word 0 0 ≡ 48 → length word ≡ 1

-- the digits of a number
pub number_digits : (word : List ℕ) → is_number word ≡ true → (all_ascii_digits word ≡ true) × (0 < length word)
number_digits [] is = absurd cc
number_digits (digit ∷ []) is = (and_from _ _ is refl, omega arith)
number_digits (first ∷ second ∷ others) is = ((and_parts _ _ is).1, omega arith)

number_start : (word : List ℕ) → is_number word ≡ true → NoLeadingZero word
number_start [] is zero = absurd cc
number_start (digit ∷ []) is zero = refl
number_start (first ∷ second ∷ others) is zero =
    let differs : (first == 48) ≡ false = not-true _ (and_parts _ _ is).0 in
    let same : (first == 48) ≡ true = eq-eqb first 48 zero in
    absurd cc

-- digits without a leading zero are a number
number_from_digits : (word : List ℕ) → all_ascii_digits word ≡ true → 0 < length word → NoLeadingZero word → is_number word ≡ true
number_from_digits [] digits some start = absurd (omega arith)
number_from_digits (digit ∷ []) digits some start = (and_parts _ _ digits).0
number_from_digits (first ∷ second ∷ others) digits some start =
    let differs : (first == 48) ≡ false = ne_eqb first 48 (λ zero. omega (arith, start zero)) in
    and_from _ _ (not_from_false _ differs) digits

decimal_start : (n : ℕ) → n < 2 ^ 64 → NoLeadingZero (decimal n)
decimal_start n small zero =
    elim (cases_lt 0 n) [
      | inl above ↦ absurd (omega (arith, first_decimal n above small))
      | inr none ↦ ap length (decimal_digit n (omega arith))
    ]

-- the spelling of a number is read as that number
pub decimal_is_number : (n : ℕ) → n < 2 ^ 64 → number_of (decimal n) ≡ Some n
decimal_is_number n small =
    let is : is_number (decimal n) ≡ true = number_from_digits (decimal n) (digits_decimal numerals n small) (decimal_nonempty n small) (decimal_start n small) in
    rw (is, digits_value-decimal numerals n small) refl

-- what is read as a number is its spelling
pub number_is_decimal : (word : List ℕ) (n : ℕ) → n < 2 ^ 64 → number_of word ≡ Some n → word ≡ decimal n
number_is_decimal word n small read =
    elim (cases_Bool (is_number word)) [
      | inl is ↦
          let read_value : Some (digits_value 10 word) ≡ Some n = rw is at read in
          let value : digits_value 10 word ≡ n = cc in
          let digits = number_digits word is in
          sym (decimal-digits_value numerals word digits.0 digits.1 (number_start word is) (omega arith)) ∙ ap decimal value
      | inr isnt ↦ let nothing : None ≡ Some n = rw isnt at read in absurd cc
    ]
