-- Bytes, texts and lists as fields.
use Rattle.std.proofs.Common.{◌≡◌, ℕ, zero, suc, ◌+◌, ◌-◌, ◌^◌, ◌<◌, ◌≤◌, ◌&&◌, Bool, true, false, nat_le, List, [], ◌∷◌, ◌++◌, length, get_or, take, drop, Option, Some, None, Result, Ok, refl, sym, ap, subst, ◌∙◌, append_assoc, add-one, add-zero, arith}
use Rattle.std.specs.Int.{w16}
use Rattle.std.specs.List.{flat_map, slice_get}
use Rattle.std.specs.Str.{IsUtf8, is_utf8}
use Rattle.std.proofs.Math.Seq.{drop-cons}
use Rattle.std.proofs.lemmas.Bool.{leb-true, le-leb}
use Rattle.std.proofs.lemmas.List.{take_at, drop-drop, take-append-drop, length-append, append-nil, length-drop, length-take}
use Rattle.std.proofs.lemmas.List.Concat.{flat_map-cons}
use Rattle.std.proofs.lemmas.Option.{get_or_from_slice_get, slice_get_within}
use Rattle.std.proofs.lemmas.Str.{IsUtf8-from_is_utf8, is_utf8-from_IsUtf8}
use Rattle.arc_bytes.specs.Numbers.{number_bytes}
use Rattle.arc_command.specs.Reader.{Reader, ◌>>=◌, byte_at, given, uint_at, text_at, text_of, items_at, list_at, within}
use Rattle.arc_command.specs.Spelling.{text_bytes, list_bytes}
use Rattle.arc_command.proofs.FieldLaws.{IsBytes, bind_ok, passed, ok_is, Stands, Stands-then, Taken, Again, IsField, behind_text, within_field}
use Rattle.arc_command.proofs.NumberLaws.{uint_field, wide16}

abbrev done : {A : Type 0} → A → Result A ℕ
done x = Ok x

-- ---- a byte

-- a byte that is given
was_given : (at : ℕ) (found : Option ℕ) (y : ℕ × ℕ) → given at found ≡ done y → (b : ℕ) × (found ≡ Some b) × ((b, at + 1) ≡ y)
was_given at None y e = absurd cc
was_given at (Some b) y e = (b, refl, cc)

-- the byte at a place begins what stands from there on
starts : (bytes : List ℕ) (at b : ℕ) (rest : List ℕ) → drop at bytes ≡ b ∷ rest → slice_get bytes at ≡ Some b
starts [] zero b rest e = absurd cc
starts [] (suc at) b rest e = absurd cc
starts (x ∷ bytes) zero b rest e = cc
starts (x ∷ bytes) (suc at) b rest e = starts bytes at b rest e

pub byte_field : IsField byte_at (λ (b : ℕ). b ∷ []) (λ (b : ℕ). b < 256)
unfolding byte_at
byte_field = record {
  taken = λ bytes at x after are e.
      let g = was_given at (slice_get bytes at) (x, after) e in
      let b = g.0 in
      let lt = slice_get_within bytes at b g.1 in
      let is : get_or bytes at 0 ≡ b = get_or_from_slice_get bytes at b 0 g.1 in
      let parts : drop at bytes ≡ b ∷ drop (at + 1) bytes =
      rw add-one (drop-cons bytes at 0 lt ∙ ap (λ (y : ℕ). y ∷ drop (suc at) bytes) is) in
      subst (λ (y : ℕ × ℕ). Stands bytes at (y.0 ∷ []) y.1 × (y.0 < 256)) g.2 (record { parts = parts; place = refl }, rw (← is) (are at));
  again = λ bytes at b rest lt e. rw (starts bytes at b rest e) refl;
}

-- ---- texts

-- the four tests of a text
tests : (a b c d : Bool) → (a && b && c && d) ≡ true → (a ≡ true) × (b ≡ true) × (c ≡ true) × (d ≡ true)
tests true true true true e = (refl, refl, refl, refl)
tests true true true false e = absurd cc
tests true true false d e = absurd cc
tests true false c d e = absurd cc
tests false b c d e = absurd cc

abbrev pub IsTextOf : ℕ → ℕ → List ℕ → Type 0
IsTextOf least most text = (least ≤ length text) × (length text ≤ most) × IsUtf8 text

pub text_field : (least most : ℕ) → most < 2 ^ 16 → IsField (text_at least most) text_bytes (IsTextOf least most)
unfolding text_at text_bytes
text_field least most small = record {
  taken = λ bytes at x after are e.
      let a = bind_ok (uint_at w16 bytes at) (text_of least most bytes at) (x, after) e in
      let len = a.0.0 in
      let start = a.0.1 in
      let s = (uint_field w16 (2 ^ 16) wide16).taken bytes at a.0.0 a.0.1 are a.1 in
      let text = take a.0.0 (drop a.0.1 bytes) in
      let made : List ℕ × ℕ = (take a.0.0 (drop a.0.1 bytes), a.0.1 + a.0.0) in
      let g = passed (nat_le least a.0.0 && nat_le a.0.0 most && nat_le a.0.0 (length bytes - a.0.1) && is_utf8 (take a.0.0 (drop a.0.1 bytes))) at made (x, after) a.2 in
      let four = tests (nat_le least a.0.0) (nat_le a.0.0 most) (nat_le a.0.0 (length bytes - a.0.1)) (is_utf8 (take a.0.0 (drop a.0.1 bytes))) g.0 in
      let long : a.0.0 ≤ length bytes - a.0.1 = leb-true _ _ four.2 in
      let is_len : length (take a.0.0 (drop a.0.1 bytes)) ≡ a.0.0 = omega (arith, length-take a.0.0 (drop a.0.1 bytes), length-drop a.0.1 bytes, long) in
      let second : Stands bytes a.0.1 (take a.0.0 (drop a.0.1 bytes)) (a.0.1 + a.0.0) = record {
        parts = sym (take-append-drop a.0.0 (drop a.0.1 bytes)) ∙ ap (λ (r : List ℕ). take a.0.0 (drop a.0.1 bytes) ++ r) (drop-drop a.0.0 a.0.1 bytes);
        place = ap (λ (k : ℕ). a.0.1 + k) (sym is_len);
      } in
      let both = Stands-then bytes at (number_bytes w16 a.0.0) a.0.1 (take a.0.0 (drop a.0.1 bytes)) (a.0.1 + a.0.0) s.0 second in
      let whole : Stands bytes at (number_bytes w16 (length (take a.0.0 (drop a.0.1 bytes))) ++ take a.0.0 (drop a.0.1 bytes)) (a.0.1 + a.0.0) =
      subst (λ (k : ℕ). Stands bytes at (number_bytes w16 k ++ take a.0.0 (drop a.0.1 bytes)) (a.0.1 + a.0.0)) (sym is_len) both in
      let low : least ≤ length (take a.0.0 (drop a.0.1 bytes)) = rw is_len (leb-true _ _ four.0) in
      let high : length (take a.0.0 (drop a.0.1 bytes)) ≤ most = rw is_len (leb-true _ _ four.1) in
      subst (λ (y : List ℕ × ℕ). Stands bytes at (number_bytes w16 (length y.0) ++ y.0) y.1 × IsTextOf least most y.0) g.1
      (whole, (low, high, IsUtf8-from_is_utf8 (take a.0.0 (drop a.0.1 bytes)) four.3));
  again = λ bytes at x rest fits e.
      let start = at + length (number_bytes w16 (length x)) in
      let split : drop at bytes ≡ number_bytes w16 (length x) ++ (x ++ rest) = e ∙ append_assoc (number_bytes w16 (length x)) x rest in
      let one = (uint_field w16 (2 ^ 16) wide16).again bytes at (length x) (x ++ rest) (omega (arith, fits.1, small)) split in
      let left : drop (at + length (number_bytes w16 (length x))) bytes ≡ x ++ rest = behind_text bytes at (number_bytes w16 (length x)) (x ++ rest) split in
      let front : take (length x) (drop (at + length (number_bytes w16 (length x))) bytes) ≡ x = ap (take (length x)) left ∙ take_at x rest (length x) refl in
      let long : length x ≤ length bytes - (at + length (number_bytes w16 (length x))) =
      omega (arith, length-drop (at + length (number_bytes w16 (length x))) bytes, ap length left, length-append x rest) in
      let place : (at + length (number_bytes w16 (length x))) + length x ≡ at + length (number_bytes w16 (length x) ++ x) = omega (arith, length-append (number_bytes w16 (length x)) x) in
      rw (one, front, le-leb _ _ fits.0, le-leb _ _ fits.1, le-leb _ _ long, is_utf8-from_IsUtf8 x fits.2) (ap (λ (n : ℕ). done (x, n)) place);
}

-- ---- lists

-- each fits, in view of the earlier ones
abbrev pub AllAfter : {A : Type 0} → (List A → A → Type 0) → List A → List A → Type 0
AllAfter G earlier [] = Unit {0}
AllAfter G earlier (x ∷ xs) = G earlier x × AllAfter G (earlier ++ x ∷ []) xs

abbrev AreFields : {A : Type 0} → (List A → Reader A) → (A → List ℕ) → (List A → A → Type 0) → Type 0
AreFields {A = A} item t G = (earlier : List A) → IsField (item earlier) t (G earlier)

items_taken : {A : Type 0} (item : List A → Reader A) (t : A → List ℕ) (G : List A → A → Type 0) → AreFields item t G →
    (n : ℕ) (earlier : List A) (bytes : List ℕ) (at : ℕ) (all : List A) (after : ℕ) → IsBytes bytes →
    items_at item earlier n bytes at ≡ Ok (all, after) →
    (xs : List A) × (earlier ++ xs ≡ all) × Stands bytes at (flat_map t xs) after × (length xs ≡ n) × AllAfter G earlier xs
unfolding items_at
items_taken {A = A} item t G fields zero earlier bytes at all after are e =
    subst (λ (y : List A × ℕ). (xs : List A) × (earlier ++ xs ≡ y.0) × Stands bytes at (flat_map t xs) y.1 × (length xs ≡ 0) × AllAfter G earlier xs) (ok_is (earlier, at) (all, after) e)
    ([], append-nil earlier, record { parts = refl; place = sym (add-zero at) }, refl, tt)
items_taken {A = A} item t G fields (suc n) earlier bytes at all after are e =
    let a = bind_ok (item earlier bytes at) (λ (x : A × ℕ). items_at item (earlier ++ x.0 ∷ []) n bytes x.1) (all, after) e in
    let field : IsField (item earlier) t (G earlier) = fields earlier in
    let first = field.taken bytes at a.0.0 a.0.1 are a.1 in
    let others = items_taken item t G fields n (earlier ++ a.0.0 ∷ []) bytes a.0.1 all after are a.2 in
    let both = Stands-then bytes at (t a.0.0) a.0.1 (flat_map t others.0) after first.0 others.2 in
    (a.0.0 ∷ others.0, sym (append_assoc earlier (a.0.0 ∷ []) others.0) ∙ others.1, rw flat_map-cons both, ap suc others.3, (first.1, others.4))

items_again : {A : Type 0} (item : List A → Reader A) (t : A → List ℕ) (G : List A → A → Type 0) → AreFields item t G →
    (earlier : List A) (bytes : List ℕ) (at : ℕ) (xs : List A) (rest : List ℕ) → AllAfter G earlier xs → drop at bytes ≡ flat_map t xs ++ rest →
    items_at item earlier (length xs) bytes at ≡ Ok (earlier ++ xs, at + length (flat_map t xs))
unfolding items_at
items_again {A = A} item t G fields earlier bytes at [] rest fits e =
    ap (λ (xs : List A). done (xs, at)) (sym (append-nil earlier)) ∙ ap (λ (n : ℕ). done (earlier ++ [], n)) (sym (add-zero at))
items_again {A = A} item t G fields earlier bytes at (x ∷ xs) rest fits e =
    let split : drop at bytes ≡ t x ++ (flat_map t xs ++ rest) =
    e ∙ ap (λ (w : List ℕ). w ++ rest) (flat_map-cons t x xs) ∙ append_assoc (t x) (flat_map t xs) rest in
    let field : IsField (item earlier) t (G earlier) = fields earlier in
    let one = field.again bytes at x (flat_map t xs ++ rest) fits.0 split in
    let two = items_again item t G fields (earlier ++ x ∷ []) bytes (at + length (t x)) xs rest fits.1 (behind_text bytes at (t x) (flat_map t xs ++ rest) split) in
    let place : (at + length (t x)) + length (flat_map t xs) ≡ at + length (flat_map t (x ∷ xs)) =
    omega (arith, ap length (flat_map-cons t x xs), length-append (t x) (flat_map t xs)) in
    rw one (two ∙ ap (λ (ys : List A). done (ys, (at + length (t x)) + length (flat_map t xs))) (append_assoc earlier (x ∷ []) xs) ∙ ap (λ (n : ℕ). done (earlier ++ x ∷ xs, n)) place)

abbrev pub IsListOf : {A : Type 0} → ℕ → ℕ → (List A → A → Type 0) → List A → Type 0
IsListOf least most G xs = (least ≤ length xs) × (length xs ≤ most) × AllAfter G [] xs

pub both_tests : (a b : Bool) → (a && b) ≡ true → (a ≡ true) × (b ≡ true)
both_tests true true e = (refl, refl)
both_tests true false e = absurd cc
both_tests false b e = absurd cc

pub list_field : {A : Type 0} (least most : ℕ) → most < 2 ^ 16 → (item : List A → Reader A) (t : A → List ℕ) (G : List A → A → Type 0) →
    ((earlier : List A) → IsField (item earlier) t (G earlier)) → IsField (list_at least most item) (list_bytes t) (IsListOf least most G)
unfolding list_at list_bytes
list_field {A = A} least most small item t G fields =
    let count_field = within_field (λ (count : ℕ). nat_le least count && nat_le count most) (uint_field w16 (2 ^ 16) wide16) in
    record {
      taken = λ bytes at xs after are e.
          let a = bind_ok (within (λ (count : ℕ). nat_le least count && nat_le count most) (uint_at w16) bytes at) (λ (count : ℕ × ℕ). items_at item [] count.0 bytes count.1) (xs, after) e in
          let s = count_field.taken bytes at a.0.0 a.0.1 are a.1 in
          let two = both_tests (nat_le least a.0.0) (nat_le a.0.0 most) s.1.1 in
          let z = items_taken item t G fields a.0.0 [] bytes a.0.1 xs after are a.2 in
          let both = Stands-then bytes at (number_bytes w16 a.0.0) a.0.1 (flat_map t z.0) after s.0 z.2 in
          let whole : Stands bytes at (number_bytes w16 (length z.0) ++ flat_map t z.0) after =
          subst (λ (k : ℕ). Stands bytes at (number_bytes w16 k ++ flat_map t z.0) after) (sym z.3) both in
          subst (λ (ys : List A). Stands bytes at (number_bytes w16 (length ys) ++ flat_map t ys) after × IsListOf least most G ys) z.1
          (whole, (rw z.3 (leb-true _ _ two.0), rw z.3 (leb-true _ _ two.1), z.4));
      again = λ bytes at xs rest fits e.
          let split : drop at bytes ≡ number_bytes w16 (length xs) ++ (flat_map t xs ++ rest) = e ∙ append_assoc (number_bytes w16 (length xs)) (flat_map t xs) rest in
          let within_limits : (nat_le least (length xs) && nat_le (length xs) most) ≡ true = rw (le-leb _ _ fits.0, le-leb _ _ fits.1) refl in
          let one = count_field.again bytes at (length xs) (flat_map t xs ++ rest) (omega (arith, fits.1, small), within_limits) split in
          let two = items_again item t G fields [] bytes (at + length (number_bytes w16 (length xs))) xs rest fits.2 (behind_text bytes at (number_bytes w16 (length xs)) (flat_map t xs ++ rest) split) in
          let place : (at + length (number_bytes w16 (length xs))) + length (flat_map t xs) ≡ at + length (number_bytes w16 (length xs) ++ flat_map t xs) =
          omega (arith, length-append (number_bytes w16 (length xs)) (flat_map t xs)) in
          rw one (two ∙ ap (λ (n : ℕ). done (xs, n)) place);
    }
