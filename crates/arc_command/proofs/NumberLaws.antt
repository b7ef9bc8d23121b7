-- The fields of several kinds.
use Rattle.std.proofs.Common.{◌≡◌, ℕ, ◌+◌, ◌-◌, ◌^◌, ◌<◌, ◌≤◌, Bool, true, false, cond, ltb, List, ◌++◌, length, take, drop, Result, Ok, Err, refl, sym, ap, subst, ◌∙◌, arith}
use Rattle.std.specs.Int.{Width, w16, w32, w64, byte_len, from_be_bytes, to_be_bytes}
use Rattle.std.proofs.lemmas.Bool.{ltb-false, le-ltb}
use Rattle.std.proofs.lemmas.List.{take_at, drop-drop, take-append-drop, length-append, length-drop, length-take}
use Rattle.std.proofs.lemmas.Nat.{be_bytes_2, be_bytes_4, be_bytes_8, from_be_bytes-to_be_bytes_2, from_be_bytes-to_be_bytes_4, from_be_bytes-to_be_bytes_8}
use Rattle.arc_bytes.specs.declared.numbers.Short.{Short}
use Rattle.arc_bytes.specs.Numbers.{number_bytes, number_at}
use Rattle.arc_command.specs.Reader.{or_place, uint_at}
use Rattle.arc_command.proofs.FieldLaws.{IsBytes, IsBytes-take, IsBytes-drop, Stands, IsField}

abbrev done : {A : Type 0} → A → Result A ℕ
done x = Ok x

-- ---- numbers

pub record IsWide (w : Width) (limit : ℕ) : Type 0 where
  pub len : (n : ℕ) → length (to_be_bytes w n) ≡ byte_len w
  pub back : (bytes : List ℕ) → length bytes ≡ byte_len w → IsBytes bytes → to_be_bytes w (from_be_bytes w bytes) ≡ bytes
  pub again : (n : ℕ) → n < limit → from_be_bytes w (to_be_bytes w n) ≡ n
  pub below : (bytes : List ℕ) → IsBytes bytes → from_be_bytes w bytes < limit

pub wide16 : IsWide w16 (2 ^ 16)
wide16 = record {
  len = λ n. refl;
  back = λ bytes len are. be_bytes_2 bytes _ len are refl;
  again = λ n lt. from_be_bytes-to_be_bytes_2 n lt;
  below = λ bytes are. omega (arith, are 0, are 1);
}

pub wide32 : IsWide w32 (2 ^ 32)
wide32 = record {
  len = λ n. refl;
  back = λ bytes len are. be_bytes_4 bytes _ len are refl;
  again = λ n lt. from_be_bytes-to_be_bytes_4 n lt;
  below = λ bytes are. omega (arith, are 0, are 1, are 2, are 3);
}

pub wide64 : IsWide w64 (2 ^ 64)
wide64 = record {
  len = λ n. refl;
  back = λ bytes len are. be_bytes_8 bytes _ len are refl;
  again = λ n lt. from_be_bytes-to_be_bytes_8 n lt;
  below = λ bytes are. omega (arith, are 0, are 1, are 2, are 3, are 4, are 5, are 6, are 7);
}

-- a test that was not met
pub missed : {A E : Type 0} (b : Bool) (at : ℕ) (e : E) (x y : A) → or_place at (cond b (Err e) (Ok x)) ≡ done y → (b ≡ false) × (x ≡ y)
missed true at e x y is = absurd cc
missed false at e x y is = (refl, cc)

pub uint_field : (w : Width) (limit : ℕ) → IsWide w limit → IsField (uint_at w) (number_bytes w) (λ (n : ℕ). n < limit)
unfolding uint_at number_at number_bytes
uint_field w limit wide = record {
  taken = λ bytes at n after are e.
      let short : Short = record { have = length bytes - at; need = byte_len w } in
      let made : ℕ × ℕ = (from_be_bytes w (take (byte_len w) (drop at bytes)), at + byte_len w) in
      let g = missed (ltb (length bytes - at) (byte_len w)) at short made (n, after) e in
      let long : byte_len w ≤ length bytes - at = ltb-false _ _ g.0 in
      let front = take (byte_len w) (drop at bytes) in
      let are_front : IsBytes front = IsBytes-take (byte_len w) (drop at bytes) (IsBytes-drop at bytes are) in
      let len : length front ≡ byte_len w = omega (arith, length-take (byte_len w) (drop at bytes), length-drop at bytes, long) in
      let same : to_be_bytes w (from_be_bytes w front) ≡ front = wide.back front len are_front in
      let parts : drop at bytes ≡ to_be_bytes w (from_be_bytes w front) ++ drop (at + byte_len w) bytes =
      rw same (sym (take-append-drop (byte_len w) (drop at bytes)) ∙ ap (λ (r : List ℕ). front ++ r) (drop-drop (byte_len w) at bytes)) in
      let place : at + byte_len w ≡ at + length (to_be_bytes w (from_be_bytes w front)) = ap (λ (k : ℕ). at + k) (sym (wide.len (from_be_bytes w front))) in
      subst (λ (y : ℕ × ℕ). Stands bytes at (to_be_bytes w y.0) y.1 × (y.0 < limit)) g.1 (record { parts = parts; place = place }, wide.below front are_front);
  again = λ bytes at n rest lt e.
      let len = wide.len n in
      let long : ltb (length bytes - at) (byte_len w) ≡ false =
      le-ltb _ _ (omega (arith, length-drop at bytes, ap length e, length-append (to_be_bytes w n) rest, len)) in
      let front : take (byte_len w) (drop at bytes) ≡ to_be_bytes w n = ap (take (byte_len w)) e ∙ take_at (to_be_bytes w n) rest (byte_len w) len in
      rw (long, front, wide.again n lt, len) refl;
}
