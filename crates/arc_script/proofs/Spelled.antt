-- The lines of steps are read as these steps.
use Rattle.std.proofs.Common.{◌≡◌, ℕ, ◌<◌, ◌≤◌, ◌^◌, ◌-◌, ◌==◌, Bool, true, false, List, [], ◌∷◌, ◌++◌, ◌+◌, length, length-append, Ok, refl, ap, ◌∙◌, arith}
use Rattle.std.specs.Prelude.{codes}
use Rattle.std.specs.Char.{is_ascii_digit}
use Rattle.std.specs.Fmt.{decimal}
use Rattle.std.specs.List.{list_any, slice_split, position_or_len, All, AllByRecursion}
use Rattle.std.specs.Str.{IsUtf8, is_utf8, all_ascii_digits, bytes_eq}
use Rattle.std.proofs.lemmas.Bool.{and_parts, or_parts, or_from, ne_eqb, le-leb}
use Rattle.std.proofs.lemmas.Fmt.{decimal_nonempty, digits_decimal, IsAscii-decimal}
use Rattle.std.proofs.Math.Seq.{take-length, take-append_seam, get_or-append_seam}
use Rattle.std.proofs.lemmas.List.{get_or_append_left}
use Rattle.std.proofs.lemmas.List.Sums.{position_or_len_is}
use Rattle.std.proofs.lemmas.List.Elements.{All-from_recursion}
use Rattle.std.proofs.lemmas.List.Splits.{slice_split_at, slice_split_none}
use Rattle.std.proofs.lemmas.Str.{IsUtf8-append, IsUtf8-from_ascii, is_utf8-from_IsUtf8}
use Rattle.arc_data.specs.declared.command.TheConstants.{MAX_MS}
use Rattle.arc_script.specs.declared.step.Step.TheVariants.{Call}
use Rattle.arc_script.specs.Grammar.{before_space, head_of, is_empty, new_line, get_line, set_line, new_control, get_control, set_control, step_of_words, step_of}
use Rattle.arc_script.specs.Spelling.{IsWord, line, state_word}
use Rattle.arc_script.specs.Words.{number_up_to, node_of, name_of, state_of}
use Rattle.arc_script.proofs.Numbers.{numerals, decimal_is_number}

-- ---- words and lines

abbrev is_space : ℕ → Bool
is_space b = b == 32

no_space_each : (word : List ℕ) → list_any is_space word ≡ false → AllByRecursion (λ b. is_space b ≡ false) word
no_space_each [] none = tt
no_space_each (b ∷ word) none =
    let parts = or_parts (is_space b) (list_any is_space word) none in
    (parts.0, no_space_each word parts.1)

no_space_all : (word : List ℕ) → IsWord word → All (λ b. is_space b ≡ false) word
no_space_all word is = All-from_recursion (λ b. is_space b ≡ false) word (no_space_each word is.no_space)

-- a line is split into the words that it was made of
line_splits : (word : List ℕ) (words : List (List ℕ)) → AllByRecursion IsWord (word ∷ words) → slice_split is_space (line (word ∷ words)) ≡ word ∷ words
line_splits word [] are = slice_split_none is_space word (no_space_all word are.0)
line_splits word (second ∷ words) are =
    slice_split_at is_space word 32 (line (second ∷ words)) (no_space_all word are.0) refl
    ∙ ap (λ (rest : List (List ℕ)). word ∷ rest) (line_splits second words are.1)

line_utf8 : (word : List ℕ) (words : List (List ℕ)) → AllByRecursion IsWord (word ∷ words) → IsUtf8 (line (word ∷ words))
unfolding lib.Utf8.encode
line_utf8 word [] are = are.0.utf8
line_utf8 word (second ∷ words) are =
    IsUtf8-append word (32 ∷ line (second ∷ words)) are.0.utf8
    (IsUtf8-append (32 ∷ []) (line (second ∷ words)) (32 ∷ [], (refl, refl)) (line_utf8 second words are.1))

-- its first word stands before the first space
first_word : (word : List ℕ) (words : List (List ℕ)) → AllByRecursion IsWord (word ∷ words) → before_space (line (word ∷ words)) ≡ word
first_word word [] are =
    let at : position_or_len is_space word ≡ length word =
    position_or_len_is is_space word (length word) 0 (omega arith) (λ k below. no_space_all word are.0 k 0 below) (λ past. absurd (omega arith)) in
    rw at (take-length word)
first_word word (second ∷ words) are =
    let sum : length (word ++ 32 ∷ line (second ∷ words)) ≡ length word + length (32 ∷ line (second ∷ words)) = length-append word (32 ∷ line (second ∷ words)) in
    let at : position_or_len is_space (word ++ 32 ∷ line (second ∷ words)) ≡ length word =
    position_or_len_is is_space (word ++ 32 ∷ line (second ∷ words)) (length word) 0 (omega arith)
    (λ k below. rw (get_or_append_left word (32 ∷ line (second ∷ words)) 0 k below) (no_space_all word are.0 k 0 below))
    (λ within. rw (get_or-append_seam word 32 (line (second ∷ words)) 0) refl) in
    rw at (take-append_seam word (32 ∷ line (second ∷ words)))

-- so it is read as those words are
line_is_words : (word : List ℕ) (words : List (List ℕ)) → AllByRecursion IsWord (word ∷ words) → bytes_eq word (codes "call") ≡ false → step_of (line (word ∷ words)) ≡ step_of_words (word ∷ words)
unfolding step_of
line_is_words word words are other =
    let utf8 : is_utf8 (line (word ∷ words)) ≡ true = is_utf8-from_IsUtf8 _ (line_utf8 word words are) in
    rw (utf8, first_word word words are, other, line_splits word words are) refl

none_empty : (words : List (List ℕ)) → AllByRecursion IsWord words → list_any is_empty words ≡ false
none_empty [] are = refl
none_empty (word ∷ words) are =
    let some : 0 < length word = are.0.some in
    or_from _ _ (ne_eqb (length word) 0 (λ e. omega arith)) (none_empty words are.1)

digits_no_space : (word : List ℕ) → all_ascii_digits word ≡ true → list_any is_space word ≡ false
digits_no_space [] digits = refl
digits_no_space (b ∷ word) digits =
    let parts = and_parts (is_ascii_digit b) (all_ascii_digits word) digits in
    or_from _ _ (ne_eqb b 32 (λ e. let wrong : is_ascii_digit 32 ≡ true = rw e at parts.0 in absurd cc)) (digits_no_space word parts.1)

decimal_word : (n : ℕ) → n < 2 ^ 64 → IsWord (decimal n)
decimal_word n small = record {
  some = decimal_nonempty n small;
  no_space = digits_no_space (decimal n) (digits_decimal numerals n small);
  utf8 = IsUtf8-from_ascii (decimal n) (IsAscii-decimal n small);
}

zero_word : IsWord (codes "0")
unfolding lib.Utf8.encode
zero_word = record { some = omega arith; no_space = refl; utf8 = (codes "0", (refl, refl)) }

new_word : IsWord (codes "new")
unfolding lib.Utf8.encode
new_word = record { some = omega arith; no_space = refl; utf8 = (codes "new", (refl, refl)) }

get_word : IsWord (codes "get")
unfolding lib.Utf8.encode
get_word = record { some = omega arith; no_space = refl; utf8 = (codes "get", (refl, refl)) }

set_word : IsWord (codes "set")
unfolding lib.Utf8.encode
set_word = record { some = omega arith; no_space = refl; utf8 = (codes "set", (refl, refl)) }

state_is_word : (on : Bool) → IsWord (state_word on)
unfolding lib.Utf8.encode
state_is_word true = record { some = omega arith; no_space = refl; utf8 = (codes "On", (refl, refl)) }
state_is_word false = record { some = omega arith; no_space = refl; utf8 = (codes "Off", (refl, refl)) }

-- ---- fields

number_read : (most n : ℕ) → n ≤ most → most < 2 ^ 64 → number_up_to most (decimal n) ≡ Ok n
unfolding number_up_to
number_read most n within small = rw (decimal_is_number n (omega arith), le-leb n most within) refl

head_read : (at_ms token : ℕ) → at_ms ≤ MAX_MS → token < 2 ^ 64 → head_of (codes "0") (decimal at_ms) (decimal token) ≡ Ok (record { node = 0; at_ms = at_ms; token = token })
unfolding head_of node_of number_up_to
head_read at_ms token within small =
    rw (decimal_is_number at_ms (omega arith), le-leb at_ms MAX_MS within, decimal_is_number token small, le-leb token (2 ^ 64 - 1) (omega arith)) refl

state_read : (on : Bool) → state_of (state_word on) ≡ Ok on
unfolding state_of
state_read true = refl
state_read false = refl

-- ---- lines

pub new_is_read : (at_ms token : ℕ) (name : List ℕ) → at_ms ≤ MAX_MS → token < 2 ^ 64 → IsWord name → length name ≤ 64
    → step_of (line (codes "new" ∷ codes "0" ∷ decimal at_ms ∷ decimal token ∷ name ∷ [])) ≡ Ok (Call 0 at_ms token (new_control name))
unfolding step_of_words new_line name_of
new_is_read at_ms token name within small word short =
    let fields : List (List ℕ) = codes "0" ∷ decimal at_ms ∷ decimal token ∷ name ∷ [] in
    let are : AllByRecursion IsWord fields = (zero_word, (decimal_word at_ms (omega arith), (decimal_word token small, (word, tt)))) in
    let some : 0 < length name = word.some in
    line_is_words (codes "new") fields (new_word, are) refl
    ∙ rw (none_empty fields are, head_read at_ms token within small, le-leb 1 (length name) (omega arith), le-leb (length name) 64 short) refl

pub get_is_read : (at_ms token control : ℕ) → at_ms ≤ MAX_MS → token < 2 ^ 64 → control < 2 ^ 64
    → step_of (line (codes "get" ∷ codes "0" ∷ decimal at_ms ∷ decimal token ∷ decimal control ∷ [])) ≡ Ok (Call 0 at_ms token (get_control control))
unfolding step_of_words get_line
get_is_read at_ms token control within small low =
    let fields : List (List ℕ) = codes "0" ∷ decimal at_ms ∷ decimal token ∷ decimal control ∷ [] in
    let are : AllByRecursion IsWord fields = (zero_word, (decimal_word at_ms (omega arith), (decimal_word token small, (decimal_word control low, tt)))) in
    line_is_words (codes "get") fields (get_word, are) refl
    ∙ rw (none_empty fields are, head_read at_ms token within small, number_read (2 ^ 64 - 1) control (omega arith) (omega arith)) refl

pub set_is_read : (at_ms token control : ℕ) (on : Bool) → at_ms ≤ MAX_MS → token < 2 ^ 64 → control < 2 ^ 64
    → step_of (line (codes "set" ∷ codes "0" ∷ decimal at_ms ∷ decimal token ∷ decimal control ∷ state_word on ∷ [])) ≡ Ok (Call 0 at_ms token (set_control control on))
unfolding step_of_words set_line
set_is_read at_ms token control on within small low =
    let fields : List (List ℕ) = codes "0" ∷ decimal at_ms ∷ decimal token ∷ decimal control ∷ state_word on ∷ [] in
    let are : AllByRecursion IsWord fields = (zero_word, (decimal_word at_ms (omega arith), (decimal_word token small, (decimal_word control low, (state_is_word on, tt))))) in
    line_is_words (codes "set") fields (set_word, are) refl
    ∙ rw (none_empty fields are, head_read at_ms token within small, number_read (2 ^ 64 - 1) control (omega arith) (omega arith), state_read on) refl
