-- What is found in an image of a journal, and what an append makes of it.
use Rattle.std.proofs.Common.{◌≡◌, ◌≢◌, ◌⊎◌, inl, inr, ⊎_elim, ℕ, ◌+◌, ◌≤◌, ◌<◌, nat_lt, nat_le, ◌&&◌, true, false, Option, None, Some, List, [], ◌∷◌, ◌++◌, length, take, drop, map, refl, sym, ◌∙◌, ap, subst, arith, append_assoc, length-append}
use Rattle.std.proofs.lemmas.List.{take_at, drop_at}
use Rattle.std.proofs.lemmas.Bool.Decides.{nat_tests}
use Rattle.std.proofs.lemmas.Slice.Eq.{bytes_eq-Decides}
use Rattle.std.specs.List.{filter_map, cons_option}
use Rattle.std.specs.Str.{bytes_eq}
use Rattle.sha2.specs.Sha256.{sha256}
use Rattle.arc_data.specs.declared.record.Record.{Record}
use Rattle.arc_command.specs.Spelling.{record_bytes}
use Rattle.arc_journal.specs.Bodies.{record_of}
use Rattle.arc_journal.specs.Layout.{head, sealed, entries, entry_limit, IsImageOf}
use Rattle.arc_journal.specs.Torn.{staged, opened, TornInTurn}
use Rattle.arc_journal.specs.Image.{Entry, body_len, body_in, stored_digest, entry_len, entries_from, entries_of, records_of, is_whole, is_below_or_none, entry_fault, first_of, fault_in, slots_in, first_fault, AreKept, IsKept, IsJournalOf}
use Rattle.arc_journal.proofs.Appending.{staged_keeps, torn_in_turn, opened_counts}
use Rattle.arc_journal.proofs.Entries.{length-sealed, body_len-sealed, body_in-sealed, stored-sealed, drop-sealed}
use Rattle.arc_journal.proofs.Heads.{length-head, no_head_fault, slots_named}
use Rattle.arc_journal.specs.Views.{BeginsWithHead}
use Rattle.arc_journal.proofs.Walking.{at_open, at_closed, kept_push, length-push, map-push}

-- ---- entries that stand there are found

found : (slots place : ℕ) (r : Record) (rest : List ℕ) → IsKept slots r
    → entries_from 0 place (1 ∷ sealed (record_bytes r) ++ rest)
    ≡ record { place = place; bytes = sealed (record_bytes r) ++ rest } ∷ entries_from 0 (place + 1 + entry_len (sealed (record_bytes r) ++ rest)) rest
found slots place r rest kept =
    at_open place (sealed (record_bytes r) ++ rest)
    ∙ ap (λ (l : List ℕ). record { place = place; bytes = sealed (record_bytes r) ++ rest } ∷ entries_from 0 (place + 1 + entry_len (sealed (record_bytes r) ++ rest)) l)
    (drop-sealed (record_bytes r) rest kept.short)

-- an entry of an image spells a record
abbrev spelled : Entry → Option Record
spelled entry = record_of (body_in entry.bytes)

pub records_back : (slots place : ℕ) (records : List Record) (gate : ℕ) (ignored : List ℕ) → gate ≢ 1 → AreKept slots records
    → filter_map spelled (entries_from 0 place (entries (map record_bytes records) ++ gate ∷ ignored)) ≡ records
records_back slots place [] gate ignored closed kept = ap (filter_map spelled) (at_closed place gate ignored closed)
records_back slots place (r ∷ records) gate ignored closed (one, others) =
    let rest = entries (map record_bytes records) ++ gate ∷ ignored in
    let bytes = sealed (record_bytes r) ++ rest in
    let next = place + 1 + entry_len bytes in
    let reads : record_of (body_in bytes) ≡ Some r = ap record_of (body_in-sealed (record_bytes r) rest one.short) ∙ one.reads in
    ap (λ (l : List ℕ). filter_map spelled (entries_from 0 place l)) (append_assoc (1 ∷ sealed (record_bytes r)) (entries (map record_bytes records)) (gate ∷ ignored))
    ∙ ap (filter_map spelled) (found slots place r rest one)
    ∙ ap (λ (o : Option Record). cons_option o (filter_map spelled (entries_from 0 next rest))) reads
    ∙ ap (λ (l : List Record). r ∷ l) (records_back slots next records gate ignored closed others)

-- ---- and have no fault

whole_there : (n len : ℕ) → 0 < n → n ≤ 1037 → n + 36 < len → (nat_lt 0 n && nat_le n 1037 && nat_lt (n + 36) len) ≡ true
whole_there n len some most within = grind (arith, nat_tests)

no_fault : (slots count place : ℕ) (bytes : List ℕ) (o : Option Record) → is_whole bytes ≡ true → bytes_eq (stored_digest bytes) (sha256 (body_in bytes)) ≡ true
    → record_of (body_in bytes) ≡ o → is_below_or_none slots o ≡ true → nat_le (entry_limit slots) count ≡ false
    → entry_fault slots count (record { place = place; bytes = bytes }) ≡ None
no_fault slots count place bytes o whole same is below room =
    let below_there : is_below_or_none slots (record_of (body_in bytes)) ≡ true = ap (is_below_or_none slots) is ∙ below in
    rw (whole, same, below_there, room) refl

tests_pass : (slots count place : ℕ) (r : Record) (rest : List ℕ) → IsKept slots r → count < entry_limit slots → 1 ≤ length rest
    → entry_fault slots count (record { place = place; bytes = sealed (record_bytes r) ++ rest }) ≡ None
tests_pass slots count place r rest kept room some =
    let body = record_bytes r in
    let bytes = sealed body ++ rest in
    let len : body_len bytes ≡ length body = body_len-sealed body rest kept.short in
    let long : length bytes ≡ length body + 36 + length rest = omega (arith, length-append (sealed body) rest, length-sealed body) in
    let is_body : body_in bytes ≡ body = body_in-sealed body rest kept.short in
    let first : 0 < body_len bytes = omega (arith, len, kept.some) in
    let most : body_len bytes ≤ 1037 = omega (arith, len, kept.short) in
    let within : body_len bytes + 36 < length bytes = omega (arith, len, long, some) in
    let same : stored_digest bytes ≡ sha256 (body_in bytes) = stored-sealed body rest kept.short ∙ ap sha256 (sym is_body) in
    no_fault slots count place bytes (Some r) (whole_there (body_len bytes) (length bytes) first most within) ((bytes_eq-Decides (stored_digest bytes) (sha256 (body_in bytes))).1 same)
    (ap record_of is_body ∙ kept.reads) kept.below (not_full (entry_limit slots) count room)
  where
    not_full : (limit n : ℕ) → n < limit → nat_le limit n ≡ false
    not_full limit n below = grind (arith, nat_tests)

faultless : (slots count place : ℕ) (records : List Record) (gate : ℕ) (ignored : List ℕ) → gate ≢ 1 → AreKept slots records → count + length records ≤ entry_limit slots
    → fault_in slots count (entries_from 0 place (entries (map record_bytes records) ++ gate ∷ ignored)) ≡ None
faultless slots count place [] gate ignored closed kept room = ap (fault_in slots count) (at_closed place gate ignored closed)
faultless slots count place (r ∷ records) gate ignored closed (one, others) room =
    let rest = entries (map record_bytes records) ++ gate ∷ ignored in
    let bytes = sealed (record_bytes r) ++ rest in
    let next = place + 1 + entry_len bytes in
    let below : count < entry_limit slots = omega (arith, room) in
    let later : count + 1 + length records ≤ entry_limit slots = omega (arith, room) in
    let some : 1 ≤ length rest = omega (arith, length-append (entries (map record_bytes records)) (gate ∷ ignored)) in
    ap (λ (l : List ℕ). fault_in slots count (entries_from 0 place l)) (append_assoc (1 ∷ sealed (record_bytes r)) (entries (map record_bytes records)) (gate ∷ ignored))
    ∙ ap (fault_in slots count) (found slots place r rest one)
    ∙ ap (λ f. first_of f (fault_in slots (count + 1) (entries_from 0 next rest))) (tests_pass slots count place r rest one below some)
    ∙ faultless slots (count + 1) next records gate ignored closed others later

-- ---- an image of a journal

module _ (node slots : ℕ) (records : List Record) (image : List ℕ) (journal : IsJournalOf node slots records image) where
  abbrev behind : List ℕ
  behind = entries (map record_bytes records) ++ journal.bytes.gate ∷ journal.bytes.ignored

  parted : image ≡ head node slots ++ behind
  parted = journal.bytes.bytes ∙ append_assoc (head node slots) (entries (map record_bytes records)) (journal.bytes.gate ∷ journal.bytes.ignored)

  behind_head : drop 16 image ≡ behind
  behind_head = ap (λ (l : List ℕ). drop 16 l) parted ∙ drop_at (head node slots) behind 16 (length-head node slots)

  pub journal_records : records_of image ≡ records
  unfolding records_of
  journal_records =
      ap (λ (l : List ℕ). filter_map spelled (entries_from 0 16 l)) behind_head
      ∙ records_back slots 16 records journal.bytes.gate journal.bytes.ignored journal.bytes.closed journal.kept

  -- it begins with its head
  pub begins : BeginsWithHead node slots image
  begins = record {
    some = journal.some;
    most = journal.most;
    bytes = ap (λ (l : List ℕ). take 16 l) parted ∙ take_at (head node slots) behind 16 (length-head node slots);
  }

  pub journal_slots : slots_in image ≡ slots
  journal_slots = slots_named node slots image begins

  pub journal_faultless : first_fault node image ≡ None
  unfolding first_fault
  journal_faultless =
      let long : 16 < length image =
      omega (arith, ap length parted, length-append (head node slots) behind, length-head node slots, length-append (entries (map record_bytes records)) (journal.bytes.gate ∷ journal.bytes.ignored)) in
      let room : 0 + length records ≤ entry_limit slots = omega (arith, journal.within) in
      ap (λ f. first_of f (fault_in (slots_in image) 0 (entries_of image))) (sym (no_head_fault node slots image begins long))
      ∙ ap (λ (n : ℕ). fault_in n 0 (entries_of image)) journal_slots
      ∙ ap (λ (l : List ℕ). fault_in slots 0 (entries_from 0 16 l)) behind_head
      ∙ faultless slots 0 16 records journal.bytes.gate journal.bytes.ignored journal.bytes.closed journal.kept room

  -- ---- and an append to it

  module _ (r : Record) (kept : IsKept slots r) (room : length records < entry_limit slots) (place : ℕ) (is_place : place ≡ 16 + length (entries (map record_bytes records))) where
    abbrev payload : List ℕ
    payload = sealed (record_bytes r) ++ 0 ∷ []

    at_gate : length (head node slots ++ entries (map record_bytes records)) ≡ place
    at_gate = omega (arith, length-append (head node slots) (entries (map record_bytes records)), length-head node slots, is_place)

    as_before : (other : List ℕ) → IsImageOf node slots (map record_bytes records) other → IsJournalOf node slots records other
    as_before other bytes = record { some = journal.some; most = journal.most; within = journal.within; kept = journal.kept; bytes = bytes }

    with_it : (other : List ℕ) → IsImageOf node slots (map record_bytes records ++ record_bytes r ∷ []) other → IsJournalOf node slots (records ++ r ∷ []) other
    with_it other bytes = record {
      some = journal.some;
      most = journal.most;
      within = omega (arith, length-push records r, room);
      kept = kept_push slots records r journal.kept kept;
      bytes = subst (λ (l : List (List ℕ)). IsImageOf node slots l other) (sym (map-push records r)) bytes;
    }

    pub appended_in_turn : (other : List ℕ) → TornInTurn image place payload other → IsJournalOf node slots records other ⊎ IsJournalOf node slots (records ++ r ∷ []) other
    appended_in_turn other torn =
        ⊎_elim (λ before. inl (as_before other before)) (λ after. inr (with_it other after))
        (torn_in_turn node slots (map record_bytes records) (record_bytes r) place at_gate image journal.bytes other torn)

    pub appended_behind : (other : List ℕ) → other ≡ staged image place payload → IsJournalOf node slots records other
    appended_behind other is = as_before other (staged_keeps node slots (map record_bytes records) (record_bytes r) place at_gate image journal.bytes other is)

    pub appended_at_last : (other : List ℕ) → other ≡ opened image place payload → IsJournalOf node slots (records ++ r ∷ []) other
    appended_at_last other is = with_it other (opened_counts node slots (map record_bytes records) (record_bytes r) place at_gate image journal.bytes other is)
