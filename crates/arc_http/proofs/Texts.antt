-- What std and memchr say of texts and lists, in the words of the definitions.
use Rattle.std.proofs.Common.{◌≡◌, ℕ, ◌+◌, ◌-◌, ◌<◌, ◌≤◌, ◌==◌, Bool, true, false, not, List, length, drop, map, min, get_or, sym, ap, ◌∙◌, arith, length-take}
use Rattle.std.specs.Prelude.{◌↔◌, IsTrue}
use Rattle.std.specs.Char.{to_ascii_lowercase}
use Rattle.std.specs.List.{after_last, suffix_len}
use Rattle.std.specs.Str.{str_eq_ignore_ascii_case}
use Rattle.arc_http.specs.Asked.{most_body}
use Rattle.arc_http.specs.Reading.{front_of, most_head}
use Rattle.memchr.specs.Find.{Passes, Nowhere, NoneAfter, is_byte}
use Rattle.std.proofs.lemmas.Bool.{false_from_ne_true, not_from_false}
use Rattle.std.proofs.lemmas.Bool.Decides.{same_from_decides}
use Rattle.std.proofs.lemmas.List.{take_all}
use Rattle.std.proofs.lemmas.List.Sums.{suffix_len_is}
use Rattle.std.proofs.lemmas.Slice.Eq.{bytes_eq-Decides}

-- a comparison without regard to case, as a test
pub same_but_for_case : (xs ys : List ℕ) (same : Bool) → (IsTrue same ↔ (map to_ascii_lowercase xs ≡ map to_ascii_lowercase ys)) → same ≡ str_eq_ignore_ascii_case xs ys
same_but_for_case xs ys same is =
    same_from_decides same _ is (bytes_eq-Decides (map to_ascii_lowercase xs) (map to_ascii_lowercase ys))

-- a byte that isn't a dot
abbrev is_other : ℕ → Bool
is_other b = not (b == 46)

other_where_none : (value : List ℕ) (k : ℕ) → ¬ (Passes (is_byte 46) value k) → is_other (get_or value k 0) ≡ true
other_where_none value k isnt = not_from_false _ (false_from_ne_true _ isnt)

-- behind the last dot that was found
pub behind_last_dot : (value : List ℕ) (dot : ℕ) → NoneAfter (Passes (is_byte 46) value) 0 (length value) dot → Passes (is_byte 46) value dot
    → drop (dot + 1) value ≡ after_last (λ b. b == 46) value
behind_last_dot value dot last is =
    let high : dot < length value = last.high in
    let at : is_other (get_or value dot 0) ≡ false = ap not is in
    let len : suffix_len is_other value ≡ length value - (dot + 1) =
    suffix_len_is is_other value (dot + 1) 0 (omega arith)
    (λ k low below. other_where_none value k (last.after k low below))
    (λ some. rw (let e : dot + 1 - 1 ≡ dot = omega arith in e) at) in
    ap (λ n. drop n value) (let e : dot + 1 ≡ length value - suffix_len is_other value = omega arith in e)

-- a value without a dot
pub without_dot : (value : List ℕ) → Nowhere (Passes (is_byte 46) value) 0 (length value) → value ≡ after_last (λ b. b == 46) value
without_dot value none =
    let len : suffix_len is_other value ≡ length value - 0 =
    suffix_len_is is_other value 0 0 (omega arith)
    (λ k low below. other_where_none value k (none k low below))
    (λ some. absurd (omega arith)) in
    ap (λ n. drop n value) (let e : 0 ≡ length value - suffix_len is_other value = omega arith in e)

-- bytes that are no more than a head may have are all in front
pub all_in_front : (bytes : List ℕ) → length bytes ≤ most_head → bytes ≡ front_of bytes
all_in_front bytes short = sym (take_all most_head bytes short)

-- where the front isn't full, it is all
pub short_front : (front bytes : List ℕ) → front ≡ front_of bytes → length front < most_head → length bytes < most_head + most_body
short_front front bytes is short =
    let cut : length front ≡ min most_head (length bytes) = ap length is ∙ length-take most_head bytes in
    omega arith
