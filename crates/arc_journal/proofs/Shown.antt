-- What an image shows: ranges of it, and all that an opening reads.
use Rattle.std.proofs.Common.{◌≡◌, ◌≢◌, inl, inr, ℕ, zero, suc, ◌+◌, ◌≤◌, ◌<◌, Bool, true, false, not, if◌then◌else◌, None, Some, Option, List, [], ◌∷◌, length, get_or, get_or-take, take, drop, refl, sym, ◌∙◌, ap, subst, arith, length-drop}
use Rattle.std.proofs.lemmas.List.{drop-drop, get_or_past}
use Rattle.std.proofs.lemmas.Bool.{cases_eq}
use Rattle.std.proofs.lemmas.Bool.Decides.{nat_tests}
use Rattle.std.proofs.lemmas.Slice.Eq.{bytes_eq-Decides}
use Rattle.std.specs.List.{filter_map, cons_option}
use Rattle.std.specs.Str.{bytes_eq}
use Rattle.sha2.specs.Sha256.{sha256}
use Rattle.arc_journal.specs.Bodies.{record_of}
use Rattle.arc_journal.specs.Layout.{signature}
use Rattle.arc_journal.specs.Image.{Entry, body_in, body_len, common, entries_from, entries_of, entry_fault, fault_in, first_fault, first_of, head_fault, is_whole, records_of, slots_in, stored_digest}
use Rattle.arc_journal.specs.Views.{AreRanges, Seen, bytes_fault, bytes_fault_in, image_fault, node_in, seen_in, seen_of, seen_of_image, seen_unless}
use Rattle.arc_journal.specs.Faults.{end_of_found}
use Rattle.arc_journal.specs.declared.end.ImageFault.{ImageFault}
use Rattle.arc_journal.specs.declared.end.JournalEnd.{JournalEnd}
use Rattle.arc_journal.proofs.Commons.{common_all}
use Rattle.arc_journal.proofs.Faults.{length_of_body, passed_tests, within_bytes}
use Rattle.arc_journal.proofs.Views.{ended, seen_behind, unseen}

-- ---- what is seen are ranges

none_from : (place : ℕ) (image : List ℕ) → get_or image place 0 ≢ 1 → AreRanges image place (seen_in (entries_from 0 place (drop place image)))
none_from place image closed = subst (AreRanges image place) (sym (ap seen_in (ended image place closed))) tt

ranges_at : (n place : ℕ) (image : List ℕ) (fault : Option JournalEnd) → length image ≤ place + suc n → get_or image place 0 ≡ 1
    → bytes_fault (record { place = place; bytes = drop (place + 1) image }) ≡ fault
    → ((next : ℕ) → length image ≤ next + n → AreRanges image next (seen_in (entries_from 0 next (drop next image))))
    → AreRanges image place (seen_in (entries_from 0 place (drop place image)))
ranges_at n place image None short is_open sound later =
    let bytes = drop (place + 1) image in
    let body = body_in bytes in
    let tests = passed_tests place bytes sound in
    let whole : is_whole bytes ≡ true = tests.0 in
    let right : stored_digest bytes ≡ sha256 body = (bytes_eq-Decides (stored_digest bytes) (sha256 body)).0 tests.1 in
    let behind : place + (5 + length body) ≡ place + 1 + (4 + body_len bytes) = omega (arith, length_of_body place bytes body whole refl) in
    let digest : take 32 (drop (place + (5 + length body)) image) ≡ sha256 body =
    ap (λ (k : ℕ). take 32 (drop k image)) behind ∙ ap (λ (l : List ℕ). take 32 l) (sym (drop-drop (4 + body_len bytes) (place + 1) image)) ∙ right in
    let within : length body + 36 < length bytes = within_bytes place bytes body whole refl in
    let same : place + 1 + 4 ≡ place + 5 = omega arith in
    let there : take (length body) (drop (place + 5) image) ≡ body =
    ap (λ (k : ℕ). take k (drop (place + 5) image)) (length_of_body place bytes body whole refl)
    ∙ ap (λ (l : List ℕ). take (body_len bytes) l) (sym (drop-drop 4 (place + 1) image ∙ ap (λ (k : ℕ). drop k image) same)) in
    subst (AreRanges image place) (sym (seen_behind image place is_open sound body refl (seen_of (record { place = place; bytes = bytes })) refl))
    (omega arith, is_open, there, digest, omega (arith, within, length-drop (place + 1) image), later (place + (37 + length body)) (omega (arith, short)))
ranges_at n place image (Some e) short is_open met later =
    subst (AreRanges image place) (sym (unseen image place is_open e met)) tt

ranges_from : (n place : ℕ) (image : List ℕ) → length image ≤ place + n → AreRanges image place (seen_in (entries_from 0 place (drop place image)))
ranges_from zero place image short =
    let nothing : get_or image place 0 ≡ 0 = get_or_past image place 0 (omega (arith, short)) in
    none_from place image (λ is. absurd (omega (arith, is, nothing)))
ranges_from (suc n) place image short = elim (cases_eq (get_or image place 0) 1) [
  | inl is_open ↦ ranges_at n place image _ short is_open refl (λ next within. ranges_from n next image within)
  | inr closed ↦ none_from place image closed
]

-- what an image shows are ranges of it, in order and apart
pub shows_ranges : (image : List ℕ) → AreRanges image 16 (seen_of_image image)
shows_ranges image = unless_fault (head_fault (node_in image) image) (ranges_from (length image) 16 image (omega arith))
  where
    unless_fault : (fault : Option JournalEnd) → AreRanges image 16 (seen_in (entries_of image)) → AreRanges image 16 (seen_unless fault (seen_in (entries_of image)))
    unless_fault None ranges = ranges
    unless_fault (Some fault) ranges = tt

-- ---- an image that opens shows all that is read

first_none : (first later : Option JournalEnd) → first_of first later ≡ None → (first ≡ None) × (later ≡ None)
first_none None later none = (refl, none)
first_none (Some fault) later none = absurd (grind arith)

sound_tests : (first second : Bool) (e f : JournalEnd) (later : Option JournalEnd)
    → (if not first then Some e else if not second then Some f else later) ≡ None → (if not first then Some e else if not second then Some f else None) ≡ None
sound_tests true true e f later none = refl
sound_tests true false e f later none = none
sound_tests false second e f later none = none

-- an entry without a fault has none of its bytes
sound_bytes : (slots count : ℕ) (entry : Entry) → entry_fault slots count entry ≡ None → bytes_fault entry ≡ None
unfolding bytes_fault
sound_bytes slots count entry none =
    sound_tests (is_whole entry.bytes) (bytes_eq (stored_digest entry.bytes) (sha256 (body_in entry.bytes))) _ _ _ none

all_sound : (slots count : ℕ) (entries : List Entry) → fault_in slots count entries ≡ None → bytes_fault_in entries ≡ None
all_sound slots count [] none = refl
all_sound slots count (entry ∷ entries) none =
    let both = first_none (entry_fault slots count entry) (fault_in slots (count + 1) entries) none in
    ap (λ f. first_of f (bytes_fault_in entries)) (sound_bytes slots count entry both.0) ∙ all_sound slots (count + 1) entries both.1

all_spelled : (entries : List Entry) → bytes_fault_in entries ≡ None
    → filter_map (λ (entry : Seen). record_of entry.body) (seen_in entries) ≡ filter_map (λ (entry : Entry). record_of (body_in entry.bytes)) entries
all_spelled [] none = refl
all_spelled (entry ∷ entries) none =
    let both = first_none (bytes_fault entry) (bytes_fault_in entries) none in
    ap (λ f. filter_map (λ (seen : Seen). record_of seen.body) (seen_unless f (seen_of entry ∷ seen_in entries))) both.0
    ∙ ap (λ l. cons_option (record_of (body_in entry.bytes)) l) (all_spelled entries both.1)

none_found : (fault : Option ImageFault) → end_of_found fault ≡ None → fault ≡ None
none_found None none = refl
none_found (Some fault) none = absurd (grind arith)

signed : (node : ℕ) (image : List ℕ) → head_fault node image ≡ None → 12 ≤ common (signature node) image
unfolding head_fault
signed node image none = grind (arith, nat_tests)

module _ (node : ℕ) (image : List ℕ) (none : first_fault node image ≡ None) where
  parts : (head_fault node image ≡ None) × (fault_in (slots_in image) 0 (entries_of image) ≡ None)
  unfolding first_fault
  parts = first_none (head_fault node image) (fault_in (slots_in image) 0 (entries_of image)) none

  -- its head names the node
  names_node : node_in image ≡ node
  names_node =
      let front : take 12 image ≡ signature node = common_all (signature node) image (signed node image parts.0) in
      sym (get_or-take 12 image 8 0 (omega arith)) ∙ ap (λ (l : List ℕ). get_or l 8 0) front

  head_sound : head_fault (node_in image) image ≡ None
  head_sound = ap (λ (n : ℕ). head_fault n image) names_node ∙ parts.0

  bytes_sound : bytes_fault_in (entries_of image) ≡ None
  bytes_sound = all_sound (slots_in image) 0 (entries_of image) parts.1

  shows_no_fault : image_fault image ≡ None
  shows_no_fault = ap (λ f. first_of f (bytes_fault_in (entries_of image))) head_sound ∙ bytes_sound

  pub met_no_fault : (fault : Option ImageFault) → image_fault image ≡ end_of_found fault → fault ≡ None
  met_no_fault fault is = none_found fault (sym is ∙ shows_no_fault)

  pub shows_records : filter_map (λ (entry : Seen). record_of entry.body) (seen_of_image image) ≡ records_of image
  unfolding records_of
  shows_records =
      ap (λ f. filter_map (λ (entry : Seen). record_of entry.body) (seen_unless f (seen_in (entries_of image)))) head_sound
      ∙ all_spelled (entries_of image) bytes_sound
