-- Sizes, as std reads numbers.
use Rattle.std.proofs.Common.{◌≡◌, ℕ, ◌<◌, ◌^◌, ◌&&◌, true, false, leb, List, [], ◌∷◌, length, Err, None, inl, inr, refl, ap, arith}
use Rattle.std.specs.Char.{is_ascii_digit}
use Rattle.std.specs.List.{list_all}
use Rattle.std.specs.Str.{all_ascii_digits}
use Rattle.std.specs.Str.Parse.{ParsesUnsigned, digits_value}
use Rattle.std.proofs.lemmas.Bool.{and_parts, cases_lt, lt-leb}
use Rattle.std.proofs.lemmas.Str.Parse.{IsNumeralModel, numerals_by_value, parse_digits, tells_all_ascii_digits}
use Rattle.arc_cli.specs.Forms.{is_count, size_of}

-- the test of digits, as `all` computes it
pub digits_by_all : (word : List ℕ) → all_ascii_digits word ≡ list_all is_ascii_digit word
digits_by_all [] = refl
digits_by_all (digit ∷ word) = ap (λ b. is_ascii_digit digit && b) (digits_by_all word)

-- digits and their value, as std's lemmas take them
numerals : IsNumeralModel (λ word. all_ascii_digits word ≡ true) (digits_value 10)
numerals = numerals_by_value _ tells_all_ascii_digits

count_digits : (word : List ℕ) → is_count word ≡ true → (all_ascii_digits word ≡ true) × (0 < length word)
count_digits [] is = absurd cc
count_digits (first ∷ others) is = ((and_parts _ _ is).1, omega arith)

-- a number that `parse` refuses has more than 32 bits, so it is no size
pub above_32_bits : {E : Type 0} (word : List ℕ) (error : E) → is_count word ≡ true → ParsesUnsigned 32 10 word (Err error) → size_of word ≡ None
unfolding size_of
above_32_bits word error is parsed =
    let digits = count_digits word is in
    let refused : (0 < length word) × (digits_value 10 word < 2 ^ 32) → ⊥ = parse_digits numerals 32 word (Err error) parsed digits.0 in
    elim (cases_lt (digits_value 10 word) (2 ^ 32)) [
      | inl small ↦ absurd (refused (digits.1, small))
      | inr large ↦
          let above : leb (digits_value 10 word) 4000 ≡ false = lt-leb _ _ (omega arith) in
          rw (is, above) (grind arith)
    ]
