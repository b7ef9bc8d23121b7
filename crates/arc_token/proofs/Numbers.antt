-- What std says of digits, in the words of this crate.
use Rattle.std.proofs.Common.{◌≡◌, ℕ, ◌<◌, ◌≤◌, ◌^◌, ◌&&◌, true, List, [], ◌∷◌, length, Result, Ok, Err, Some, inl, inr, refl, sym, ap, ◌∙◌, arith}
use Rattle.std.specs.Char.{is_ascii_digit}
use Rattle.std.specs.Fmt.{decimal}
use Rattle.std.specs.List.{list_all}
use Rattle.std.specs.Result.{result_ok}
use Rattle.std.specs.Str.{all_ascii_digits, IsUtf8}
use Rattle.std.specs.Str.Parse.{ParsesUnsigned, digits_value}
use Rattle.std.proofs.lemmas.Bool.{cases_lt, lt-ltb, le-leb, le-ltb}
use Rattle.std.proofs.lemmas.Fmt.{IsAscii-from_digits, decimal_nonempty, digits_decimal, digits_value-decimal, length-decimal-le}
use Rattle.std.proofs.lemmas.Str.{IsUtf8-from_ascii}
use Rattle.std.proofs.lemmas.Str.Parse.{IsNumeralModel, numerals_by_value, tells_all_ascii_digits, parse_digits}
use Rattle.arc_token.specs.Digits.{number_in, token_in}

-- digits and their value, as std's lemmas take them
pub numerals : IsNumeralModel (λ word. all_ascii_digits word ≡ true) (digits_value 10)
numerals = numerals_by_value _ tells_all_ascii_digits

-- the test of digits, as `all` computes it
pub digits_by_all : (word : List ℕ) → all_ascii_digits word ≡ list_all is_ascii_digit word
digits_by_all [] = refl
digits_by_all (digit ∷ word) = ap (λ b. is_ascii_digit digit && b) (digits_by_all word)

-- digits are a text
pub digits_utf8 : (word : List ℕ) → list_all is_ascii_digit word ≡ true → IsUtf8 word
digits_utf8 word digits = IsUtf8-from_ascii word (IsAscii-from_digits word (numerals.to word (digits_by_all word ∙ digits)))

-- digits are parsed as the number that they spell
pub parsed_number : {E : Type 0} (word : List ℕ) (parsed : Result ℕ E) → ParsesUnsigned 64 10 word parsed
    → list_all is_ascii_digit word ≡ true → 0 < length word → result_ok parsed ≡ number_in word
unfolding number_in
parsed_number {E = E} word (Ok n) is digits some =
    let found : ((0 < length word) × (digits_value 10 word < 2 ^ 64)) × (n ≡ digits_value 10 word) = parse_digits numerals {E = E} 64 word (Ok n) is (digits_by_all word ∙ digits) in
    rw (digits, lt-ltb 0 (length word) some, lt-ltb (digits_value 10 word) (2 ^ 64) found.0.1) (ap Some found.1)
parsed_number {E = E} word (Err e) is digits some =
    let refused : ¬ ((0 < length word) × (digits_value 10 word < 2 ^ 64)) = parse_digits numerals {E = E} 64 word (Err e) is (digits_by_all word ∙ digits) in
    elim (cases_lt (digits_value 10 word) (2 ^ 64)) [
      | inl small ↦ absurd (refused (some, small))
      | inr large ↦ rw (digits, lt-ltb 0 (length word) some, le-ltb (digits_value 10 word) (2 ^ 64) large) refl
    ]

-- a number below 2 ^ 64 has at most 20 digits
pub twenty_digits : (n : ℕ) → n < 2 ^ 64 → length (decimal n) ≤ 20
twenty_digits n small = length-decimal-le 20 n (omega arith) (omega arith) small

-- the digits of a number are read again as that number
pub decimal_token : (n : ℕ) → n < 2 ^ 64 → token_in (decimal n) ≡ Some n
unfolding number_in
decimal_token n small =
    let short : length (decimal n) ≤ 20 = twenty_digits n small in
    let some : 0 < length (decimal n) = decimal_nonempty n small in
    let value : digits_value 10 (decimal n) ≡ n = digits_value-decimal numerals n small in
    let digits : list_all is_ascii_digit (decimal n) ≡ true = sym (digits_by_all (decimal n)) ∙ digits_decimal numerals n small in
    rw (le-leb (length (decimal n)) 20 short, lt-ltb 0 (length (decimal n)) some, digits, value, lt-ltb n (2 ^ 64) small) refl
