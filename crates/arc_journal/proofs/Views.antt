-- What is still to be seen of an image, by the gate at a place.
use Rattle.std.proofs.Common.{◌≡◌, ◌≢◌, inl, inr, ℕ, ◌+◌, ◌<◌, None, Some, Option, List, [], ◌∷◌, length, get_or, drop, refl, sym, ◌∙◌, ap, arith}
use Rattle.std.proofs.lemmas.List.{drop_all, drop_more, drop-drop, get_or_past}
use Rattle.std.proofs.lemmas.Bool.{cases_lt}
use Rattle.arc_journal.specs.Faults.{end_of_found}
use Rattle.arc_journal.specs.Image.{Entry, body_in, entry_len, entries_from, first_of}
use Rattle.arc_journal.specs.Views.{Seen, bytes_fault, bytes_fault_in, seen_in, seen_of, seen_unless, still_faulty, still_seen}
use Rattle.arc_journal.specs.declared.end.ImageFault.{ImageFault}
use Rattle.arc_journal.specs.declared.end.JournalEnd.{JournalEnd}
use Rattle.arc_journal.specs.declared.image.Records.{Records}
use Rattle.arc_journal.proofs.Faults.{length_of_body, passed_tests}
use Rattle.arc_journal.proofs.Walking.{at_open, at_closed}

none_from : (place : ℕ) → entries_from 0 place [] ≡ []
unfolding entries_from
none_from place = refl

-- at a gate that isn't open the entries end
pub ended : (bytes : List ℕ) (place : ℕ) → get_or bytes place 0 ≢ 1 → entries_from 0 place (drop place bytes) ≡ []
ended bytes place closed = elim (cases_lt place (length bytes)) [
  | inl within ↦ ap (entries_from 0 place) (drop_more bytes place 0 within) ∙ at_closed place (get_or bytes place 0) (drop (place + 1) bytes) closed
  | inr past ↦ ap (entries_from 0 place) (drop_all place bytes past) ∙ none_from place
]

-- an open gate lies in the image
pub gate_within : (bytes : List ℕ) (place : ℕ) → get_or bytes place 0 ≡ 1 → place < length bytes
gate_within bytes place is_open = elim (cases_lt place (length bytes)) [
  | inl within ↦ within
  | inr past ↦ absurd (omega (arith, is_open, get_or_past bytes place 0 past))
]

-- what is known of an entry by the bytes that were taken from behind its gate
module _ (bytes rest : List ℕ) (place : ℕ) (is : rest ≡ drop (place + 1) bytes) where
  pub fault_at : (fault : Option JournalEnd) → fault ≡ bytes_fault (record { place = place; bytes = rest })
      → bytes_fault (record { place = place; bytes = drop (place + 1) bytes }) ≡ fault
  fault_at fault found = sym (found ∙ ap (λ (l : List ℕ). bytes_fault (record { place = place; bytes = l })) is)

  pub seen_at : (seen : Seen) → seen ≡ seen_of (record { place = place; bytes = rest }) → seen ≡ seen_of (record { place = place; bytes = drop (place + 1) bytes })
  seen_at seen found = found ∙ ap (λ (l : List ℕ). seen_of (record { place = place; bytes = l })) is

module _ (bytes : List ℕ) (place : ℕ) (is_open : get_or bytes place 0 ≡ 1) where
  abbrev entry : Entry
  entry = record { place = place; bytes = drop (place + 1) bytes }

  opens : drop place bytes ≡ 1 ∷ drop (place + 1) bytes
  opens = drop_more bytes place 0 (gate_within bytes place is_open) ∙ ap (λ (g : ℕ). g ∷ drop (place + 1) bytes) is_open

  abbrev behind : List Entry
  behind = entries_from 0 (place + 1 + entry_len (drop (place + 1) bytes)) (drop (entry_len (drop (place + 1) bytes)) (drop (place + 1) bytes))

  -- at an open gate an entry begins
  pub begun : entries_from 0 place (drop place bytes) ≡ entry ∷ behind
  begun = ap (entries_from 0 place) opens ∙ at_open place (drop (place + 1) bytes)

  -- a fault of its bytes is the first, and nothing is seen
  pub fault_met : (e : JournalEnd) → bytes_fault entry ≡ Some e → bytes_fault_in (entries_from 0 place (drop place bytes)) ≡ Some e
  fault_met e is = ap bytes_fault_in begun ∙ ap (λ f. first_of f (bytes_fault_in behind)) is

  pub unseen : (e : JournalEnd) → bytes_fault entry ≡ Some e → seen_in (entries_from 0 place (drop place bytes)) ≡ []
  unseen e is = ap seen_in begun ∙ ap (λ f. seen_unless f (seen_of entry ∷ seen_in behind)) is

  -- without one it is seen, and what stands behind it is still to be seen
  module _ (sound : bytes_fault entry ≡ None) (body : List ℕ) (is_body : body ≡ body_in (drop (place + 1) bytes)) where
    goes_on : behind ≡ entries_from 0 (place + (37 + length body)) (drop (place + (37 + length body)) bytes)
    goes_on =
        let len : length body ≡ _ = length_of_body place (drop (place + 1) bytes) body (passed_tests place (drop (place + 1) bytes) sound).0 is_body in
        let next : place + 1 + entry_len (drop (place + 1) bytes) ≡ place + (37 + length body) = omega (arith, len) in
        ap (entries_from 0 (place + 1 + entry_len (drop (place + 1) bytes))) (drop-drop (entry_len (drop (place + 1) bytes)) (place + 1) bytes)
        ∙ ap (λ (n : ℕ). entries_from 0 n (drop n bytes)) next

    pub faults_behind : bytes_fault_in (entries_from 0 (place + (37 + length body)) (drop (place + (37 + length body)) bytes))
        ≡ bytes_fault_in (entries_from 0 place (drop place bytes))
    faults_behind = sym (ap bytes_fault_in begun ∙ ap (λ f. first_of f (bytes_fault_in behind)) sound ∙ ap bytes_fault_in goes_on)

    pub seen_behind : (seen : Seen) → seen ≡ seen_of entry
        → seen_in (entries_from 0 place (drop place bytes)) ≡ seen ∷ seen_in (entries_from 0 (place + (37 + length body)) (drop (place + (37 + length body)) bytes))
    seen_behind seen is =
        ap seen_in begun ∙ ap (λ f. seen_unless f (seen_of entry ∷ seen_in behind)) sound ∙ (λ i. sym is i ∷ seen_in (goes_on i))

-- a walk that has met no fault
module _ (records : Records) (none : records.fault ≡ None) where
  abbrev left : List Entry
  left = entries_from 0 records.place (drop records.place records.bytes.now)

  pub all_seen : still_seen records ≡ seen_in left
  all_seen = ap (λ (f : Option ImageFault). seen_unless (end_of_found f) (seen_in left)) none

  pub all_faulty : still_faulty records ≡ bytes_fault_in left
  all_faulty = ap (λ (f : Option ImageFault). first_of (end_of_found f) (bytes_fault_in left)) none
