-- What std says of digits, of lists of words and of UTF-8, in the words of the grammar.
use Rattle.std.proofs.Common.{◌≡◌, ℕ, ◌<◌, ◌^◌, ◌&&◌, ◌||◌, Bool, true, false, leb, List, [], ◌∷◌, length, Err, map, inl, inr, refl, ap, arith}
use Rattle.std.specs.Char.{is_ascii_digit}
use Rattle.std.specs.List.{list_all, list_any}
use Rattle.std.specs.Str.{all_ascii_digits, is_utf8, IsUtf8}
use Rattle.std.specs.Str.Parse.{ParsesUnsigned, digits_value}
use Rattle.std.proofs.lemmas.Bool.{cases_lt, false_from_ne_true, lt-leb}
use Rattle.std.proofs.lemmas.Str.{IsUtf8-from_is_utf8, is_utf8-from_IsUtf8}
use Rattle.std.proofs.lemmas.Str.Parse.{parse_digits}
use Rattle.arc_script.specs.declared.step.ScriptCode.TheVariants.{Number}
use Rattle.arc_script.specs.Words.{is_number, number_of, at_most}
use Rattle.arc_script.proofs.Numbers.{numerals, number_digits}

-- the test of digits, as `all` computes it
pub digits_by_all : (word : List ℕ) → all_ascii_digits word ≡ list_all is_ascii_digit word
digits_by_all [] = refl
digits_by_all (digit ∷ word) = ap (λ b. is_ascii_digit digit && b) (digits_by_all word)

-- a test of what each element is seen as
pub any_by_map : {A B : Type 0} (p : B → Bool) (view : A → B) (xs : List A) → list_any p (map view xs) ≡ list_any (λ x. p (view x)) xs
any_by_map p view [] = refl
any_by_map p view (x ∷ xs) = ap (λ b. p (view x) || b) (any_by_map p view xs)

-- a text that is UTF-8 passes the test
pub utf8_passes : (bytes : List ℕ) → IsUtf8 bytes → is_utf8 bytes ≡ true
utf8_passes bytes is = is_utf8-from_IsUtf8 bytes is

-- a text that isn't UTF-8 fails it
pub utf8_fails : (bytes : List ℕ) → (IsUtf8 bytes → ⊥) → is_utf8 bytes ≡ false
utf8_fails bytes not_utf8 = false_from_ne_true _ (λ is. not_utf8 (IsUtf8-from_is_utf8 bytes is))

-- a number that `parse` refuses has more than 64 bits, so it is above each limit of 64 bits
pub above_64_bits : {E : Type 0} (most : ℕ) (word : List ℕ) (error : E) → most < 2 ^ 64 → is_number word ≡ true → ParsesUnsigned 64 10 word (Err error) → at_most most (number_of word) ≡ Err Number
above_64_bits most word error low is parsed =
    let digits = number_digits word is in
    let refused : (0 < length word) × (digits_value 10 word < 2 ^ 64) → ⊥ = parse_digits numerals 64 word (Err error) parsed digits.0 in
    elim (cases_lt (digits_value 10 word) (2 ^ 64)) [
      | inl small ↦ absurd (refused (digits.1, small))
      | inr large ↦ let above : leb (digits_value 10 word) most ≡ false = lt-leb _ _ (omega arith) in rw (is, above) refl
    ]
