-- The shift that a UUID names.
use Rattle.std.proofs.Common.{◌≡◌, ℕ, zero, suc, ◌/◌, ◌^◌, ◌<◌, true, false, List, Option, Some, None, refl, sym, ap, ◌∙◌, arith, eqb, inl, All}
use Rattle.std.specs.Int.{w128, to_be_bytes, from_be_bytes}
use Rattle.std.specs.Option.{option_and_then}
use Rattle.std.proofs.lemmas.Bool.{eq-eqb}
use Rattle.std.proofs.lemmas.Bool.Decides.{nat_tests}
use Rattle.uuid.specs.Text.{lower, parsed}
use Rattle.uuid.proofs.RoundTrips.{parses_hyphenated}
use Rattle.uuid.proofs.OrderLemmas.{from_be_bytes-to_be_bytes_16}
use Rattle.arc_ids.specs.declared.named_id.ShiftId.{ShiftId}
use Rattle.arc_ids.specs.ShiftTexts.{shift_text, shift_of_bytes, shift_of_text}

-- there is nothing where nothing can be there
nothing : {A : Type 0} (o : Option A) → ((x : A) → o ≡ Some x → ⊥) → o ≡ None
nothing None never = refl
nothing (Some x) never = absurd (never x refl)

-- a text that is no UUID names no shift
pub no_uuid : (text : List ℕ) → ((u : List ℕ) → parsed text ≡ Some u → ⊥) → shift_of_text text ≡ None
unfolding shift_of_text
no_uuid text never = ap (option_and_then shift_of_bytes) (nothing (parsed text) never)

-- a UUID whose upper half isn't 0 names none
pub other_uuid : (text bytes : List ℕ) → Some bytes ≡ parsed text → ¬ (from_be_bytes w128 bytes / 2 ^ 64 ≡ 0) → shift_of_text text ≡ None
unfolding shift_of_text
other_uuid text bytes read upper =
    let test : eqb (from_be_bytes w128 bytes / 2 ^ 64) 0 ≡ false = grind (arith, nat_tests) in
    let none : shift_of_bytes bytes ≡ None = rw test refl in
    ap (option_and_then shift_of_bytes) (sym read) ∙ none

-- one whose upper half is 0 names that shift
own_uuid : (bytes : List ℕ) (n : ℕ) → from_be_bytes w128 bytes ≡ n → n < 2 ^ 64 → shift_of_bytes bytes ≡ Some (record { 0 = n })
own_uuid bytes n number small =
    let test : eqb (from_be_bytes w128 bytes / 2 ^ 64) 0 ≡ true = eq-eqb _ _ (omega arith) in
    rw test (rw number refl)

-- the sixteen bytes of a number are bytes
are_bytes : (n : ℕ) → All (λ b. b < 256) (to_be_bytes w128 n)
are_bytes n zero d within = omega arith
are_bytes n (suc zero) d within = omega arith
are_bytes n (suc (suc zero)) d within = omega arith
are_bytes n (suc (suc (suc zero))) d within = omega arith
are_bytes n (suc (suc (suc (suc zero)))) d within = omega arith
are_bytes n (suc (suc (suc (suc (suc zero))))) d within = omega arith
are_bytes n (suc (suc (suc (suc (suc (suc zero)))))) d within = omega arith
are_bytes n (suc (suc (suc (suc (suc (suc (suc zero))))))) d within = omega arith
are_bytes n (suc (suc (suc (suc (suc (suc (suc (suc zero)))))))) d within = omega arith
are_bytes n (suc (suc (suc (suc (suc (suc (suc (suc (suc zero))))))))) d within = omega arith
are_bytes n (suc (suc (suc (suc (suc (suc (suc (suc (suc (suc zero)))))))))) d within = omega arith
are_bytes n (suc (suc (suc (suc (suc (suc (suc (suc (suc (suc (suc zero))))))))))) d within = omega arith
are_bytes n (suc (suc (suc (suc (suc (suc (suc (suc (suc (suc (suc (suc zero)))))))))))) d within = omega arith
are_bytes n (suc (suc (suc (suc (suc (suc (suc (suc (suc (suc (suc (suc (suc zero))))))))))))) d within = omega arith
are_bytes n (suc (suc (suc (suc (suc (suc (suc (suc (suc (suc (suc (suc (suc (suc zero)))))))))))))) d within = omega arith
are_bytes n (suc (suc (suc (suc (suc (suc (suc (suc (suc (suc (suc (suc (suc (suc (suc zero))))))))))))))) d within = omega arith
are_bytes n (suc (suc (suc (suc (suc (suc (suc (suc (suc (suc (suc (suc (suc (suc (suc (suc k)))))))))))))))) d within = absurd (omega arith)

-- a shift is read again
pub read_again : (shift : ShiftId) → shift.0 < 2 ^ 64 → shift_of_text (shift_text shift) ≡ Some shift
unfolding shift_text shift_of_text
read_again shift small =
    let read = parses_hyphenated lower (to_be_bytes w128 shift.0) (inl refl) refl (are_bytes shift.0) in
    let number = from_be_bytes-to_be_bytes_16 shift.0 (omega arith) in
    ap (option_and_then shift_of_bytes) (sym read) ∙ own_uuid (to_be_bytes w128 shift.0) shift.0 number small
