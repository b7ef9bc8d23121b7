-- The fault of an entry, by the first test that it fails.
use Rattle.std.proofs.Common.{◌≡◌, Bool, not, if◌then◌else◌, ℕ, ◌+◌, ◌-◌, ◌≤◌, ◌<◌, true, false, None, Some, Option, List, length, take, drop, refl, sym, ◌∙◌, ap, arith, length-drop}
use Rattle.std.proofs.lemmas.List.{length-take-le}
use Rattle.std.specs.Str.{bytes_eq}
use Rattle.sha2.specs.Sha256.{sha256}
use Rattle.arc_journal.specs.Image.{body_in, body_len, entry_fault, is_whole, stored_digest}
use Rattle.arc_journal.specs.Views.{bytes_fault, record_fault}
use Rattle.arc_journal.specs.declared.end.JournalEnd.{JournalEnd}
use Rattle.arc_journal.specs.declared.end.JournalEnd.TheVariants.{NotOurs, Rotten}
use Rattle.arc_journal.proofs.Entries.{whole_means}

both_pass : (first second : Bool) (e f : JournalEnd) → (if not first then Some e else if not second then Some f else None) ≡ None
    → (first ≡ true) × (second ≡ true)
both_pass true true e f is = (refl, refl)
both_pass true false e f is = absurd (grind arith)
both_pass false second e f is = absurd (grind arith)

one_fails : (first second : Bool) (e f found : JournalEnd) → (if not first then Some e else if not second then Some f else None) ≡ Some found
    → (later : Option JournalEnd) → (if not first then Some e else if not second then Some f else later) ≡ Some found
one_fails true true e f found is later = absurd (grind arith)
one_fails true false e f found is later = is
one_fails false second e f found is later = is

module _ (place : ℕ) (bytes : List ℕ) where
  pub fault_of_cut : is_whole bytes ≡ false → Some (NotOurs place) ≡ bytes_fault (record { place = place; bytes = bytes })
  unfolding bytes_fault
  fault_of_cut cut = rw cut refl

  module _ (body : List ℕ) (whole : is_whole bytes ≡ true) (is_body : body ≡ body_in bytes) where
    pub length_of_body : length body ≡ body_len bytes
    length_of_body =
        let n = body_len bytes in
        let sizes = whole_means n (length bytes) whole in
        let long : n ≤ length (drop 4 bytes) = omega (arith, length-drop 4 bytes, sizes.2) in
        ap length is_body ∙ length-take-le n (drop 4 bytes) long

    -- an entry that is whole lies within the bytes
    pub within_bytes : length body + 36 < length bytes
    within_bytes = let sizes = whole_means (body_len bytes) (length bytes) whole in omega (arith, length_of_body, sizes.2)

    module _ (stored : List ℕ) (is_stored : stored ≡ take (36 + length body - (4 + length body)) (drop (4 + length body) bytes)) where
      is_digest : stored ≡ stored_digest bytes
      is_digest =
          let width : 36 + length body - (4 + length body) ≡ 32 = omega arith in
          is_stored ∙ ap (λ (k : ℕ). take k (drop (4 + length body) bytes)) width ∙ ap (λ (k : ℕ). take 32 (drop (4 + k) bytes)) length_of_body

      pub fault_of_rot : (computed : List ℕ) → computed ≡ sha256 body → bytes_eq stored computed ≡ false
          → Some (Rotten place stored computed) ≡ bytes_fault (record { place = place; bytes = bytes })
      unfolding bytes_fault
      fault_of_rot computed is_computed wrong =
          let same : computed ≡ sha256 (body_in bytes) = is_computed ∙ ap sha256 is_body in
          let found : bytes_eq (stored_digest bytes) (sha256 (body_in bytes)) ≡ false = sym (λ i. bytes_eq (is_digest i) (same i)) ∙ wrong in
          let first : bytes_fault (record { place = place; bytes = bytes }) ≡ Some (Rotten place (stored_digest bytes) (sha256 (body_in bytes))) = rw whole (rw found refl) in
          sym (first ∙ sym (λ i. Some (Rotten place (is_digest i) (same i))))

      pub no_fault_of_bytes : bytes_eq stored (sha256 body) ≡ true → None ≡ bytes_fault (record { place = place; bytes = bytes })
      unfolding bytes_fault
      no_fault_of_bytes right =
          let found : bytes_eq (stored_digest bytes) (sha256 (body_in bytes)) ≡ true = sym (λ i. bytes_eq (is_digest i) (sha256 (is_body i))) ∙ right in
          rw whole (rw found refl)

  -- bytes without a fault are whole, and have the body's digest
  pub passed_tests : bytes_fault (record { place = place; bytes = bytes }) ≡ None
      → (is_whole bytes ≡ true) × (bytes_eq (stored_digest bytes) (sha256 (body_in bytes)) ≡ true)
  unfolding bytes_fault
  passed_tests none = both_pass (is_whole bytes) (bytes_eq (stored_digest bytes) (sha256 (body_in bytes))) _ _ none

  module _ (slots count : ℕ) where
    -- a fault of an entry's bytes is the entry's
    pub fault_of_bytes : (e : JournalEnd) → bytes_fault (record { place = place; bytes = bytes }) ≡ Some e
        → entry_fault slots count (record { place = place; bytes = bytes }) ≡ Some e
    unfolding bytes_fault
    fault_of_bytes e is =
        one_fails (is_whole bytes) (bytes_eq (stored_digest bytes) (sha256 (body_in bytes))) _ _ e is _

    -- and without one it is that of its record
    pub fault_behind_bytes : bytes_fault (record { place = place; bytes = bytes }) ≡ None
        → entry_fault slots count (record { place = place; bytes = bytes }) ≡ record_fault slots count (record { place = place; body = body_in bytes })
    unfolding record_fault
    fault_behind_bytes sound = rw (passed_tests sound).0 (rw (passed_tests sound).1 refl)
