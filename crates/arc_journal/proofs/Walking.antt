-- One entry more was read.
use Rattle.std.proofs.Common.{◌≡◌, ◌≢◌, ℕ, zero, suc, ◌+◌, ◌≤◌, ◌<◌, Option, None, Some, List, [], ◌∷◌, ◌++◌, length, get_or, take, drop, map, refl, sym, ◌∙◌, ap, subst, arith, append_assoc, length-append, length-drop, take-append-drop, add-zero}
use Rattle.std.proofs.Math.Seq.{take-add}
use Rattle.std.proofs.lemmas.List.{take_at, drop_more, drop-drop, length-take-le}
use Rattle.std.proofs.lemmas.Bool.Decides.{nat_tests}
use Rattle.arc_data.specs.declared.record.Record.{Record}
use Rattle.arc_command.specs.Spelling.{record_bytes}
use Rattle.arc_journal.specs.Layout.{head, sealed, entries, entry_limit}
use Rattle.arc_journal.specs.declared.end.JournalEnd.{JournalEnd}
use Rattle.arc_journal.specs.declared.end.JournalEnd.TheVariants.{Disk, NotOurs, Rotten, Memory}
use Rattle.arc_journal.specs.Image.{Entry, entry_len, entries_from, entry_fault, first_of, fault_in, IsCausedBy, AreKept, IsKept, IsEntry, IsReadTo, IsJournalOf}
use Rattle.arc_journal.proofs.Appending.{entries-push}
use Rattle.arc_journal.proofs.Entries.{length-sealed, body_len-sealed}

-- bytes that belong to an entry are passed over
passed : (known place : ℕ) (bytes : List ℕ) → entries_from known place bytes ≡ entries_from 0 (place + known) (drop known bytes)
unfolding entries_from
passed zero place [] = refl
passed (suc known) place [] = refl
passed zero place (b ∷ bytes) = ap (λ (p : ℕ). entries_from 0 p (b ∷ bytes)) (sym (add-zero place))
passed (suc known) place (b ∷ bytes) =
    let same : place + 1 + known ≡ place + suc known = omega arith in
    passed known (place + 1) bytes ∙ ap (λ (p : ℕ). entries_from 0 p (drop known bytes)) same

pub at_open : (place : ℕ) (bytes : List ℕ)
    → entries_from 0 place (1 ∷ bytes) ≡ record { place = place; bytes = bytes } ∷ entries_from 0 (place + 1 + entry_len bytes) (drop (entry_len bytes) bytes)
unfolding entries_from
at_open place bytes = ap (λ (l : List Entry). record { place = place; bytes = bytes } ∷ l) (passed (entry_len bytes) (place + 1) bytes)

pub at_closed : (place gate : ℕ) (bytes : List ℕ) → gate ≢ 1 → entries_from 0 place (gate ∷ bytes) ≡ []
unfolding entries_from
at_closed place gate bytes closed = grind (arith, nat_tests)

pub length-push : (records : List Record) (r : Record) → length (records ++ r ∷ []) ≡ length records + 1
length-push records r = length-append records (r ∷ [])

pub map-push : (records : List Record) (r : Record) → map record_bytes (records ++ r ∷ []) ≡ map record_bytes records ++ record_bytes r ∷ []
map-push [] r = refl
map-push (s ∷ records) r = ap (λ (l : List (List ℕ)). record_bytes s ∷ l) (map-push records r)

pub kept_push : (slots : ℕ) (records : List Record) (r : Record) → AreKept slots records → IsKept slots r → AreKept slots (records ++ r ∷ [])
kept_push slots [] r kept one = (one, tt)
kept_push slots (s ∷ records) r (first, others) one = (first, kept_push slots records r others one)

pub spelled_push : (records : List Record) (r : Record) → entries (map record_bytes (records ++ r ∷ [])) ≡ entries (map record_bytes records) ++ 1 ∷ sealed (record_bytes r)
spelled_push records r = ap entries (map-push records r) ∙ entries-push (map record_bytes records) (record_bytes r)

-- the first of two faults has the cause of the first
caused_first : (e : JournalEnd) (first later : Option JournalEnd) → IsCausedBy (Some e) first → IsCausedBy (Some e) (first_of first later)
caused_first Disk first later is = ap (λ f. first_of f later) is
caused_first (NotOurs place) first later is = ap (λ f. first_of f later) is
caused_first (Rotten place stored computed) first later is = ap (λ f. first_of f later) is
caused_first Memory first later is = tt

module _ (slots : ℕ) (records : List Record) (place : ℕ) (image : List ℕ) (so_far : IsReadTo slots records place image) where
  gate_there : drop place image ≡ get_or image place 0 ∷ drop (place + 1) image
  gate_there = drop_more image place 0 so_far.within

  pub nothing_more : get_or image place 0 ≢ 1 → (count : ℕ) → fault_in slots count (entries_from 0 place (drop place image)) ≡ None
  nothing_more closed count =
      ap (λ (l : List ℕ). fault_in slots count (entries_from 0 place l)) gate_there
      ∙ ap (fault_in slots count) (at_closed place (get_or image place 0) (drop (place + 1) image) closed)

  -- and then there is no fault
  pub ends_here : (whole : Option JournalEnd) → get_or image place 0 ≢ 1 → whole ≡ fault_in slots (length records) (entries_from 0 place (drop place image)) → whole ≡ None
  ends_here whole closed faults = faults ∙ nothing_more closed (length records)

  module _ (is_open : get_or image place 0 ≡ 1) where
    pub open_there : drop place image ≡ 1 ∷ drop (place + 1) image
    open_there = gate_there ∙ ap (λ (g : ℕ). g ∷ drop (place + 1) image) is_open

    -- the first fault is the entry's, where it has one
    pub faults_here : (count : ℕ) → fault_in slots count (entries_from 0 place (drop place image))
        ≡ first_of (entry_fault slots count (record { place = place; bytes = drop (place + 1) image }))
        (fault_in slots (count + 1) (entries_from 0 (place + 1 + entry_len (drop (place + 1) image)) (drop (entry_len (drop (place + 1) image)) (drop (place + 1) image))))
    faults_here count =
        ap (λ (l : List ℕ). fault_in slots count (entries_from 0 place l)) open_there ∙ ap (fault_in slots count) (at_open place (drop (place + 1) image))

    -- a fault of the entry is the first
    pub fails_here : (whole : Option JournalEnd) (e : JournalEnd) (count : ℕ) (rest : List ℕ) → count ≡ length records → rest ≡ drop (place + 1) image
        → whole ≡ fault_in slots (length records) (entries_from 0 place (drop place image))
        → IsCausedBy (Some e) (entry_fault slots count (record { place = place; bytes = rest })) → IsCausedBy (Some e) whole
    fails_here whole e count rest is_count is_rest faults caused =
        let here : IsCausedBy (Some e) (entry_fault slots (length records) (record { place = place; bytes = drop (place + 1) image })) =
        subst (λ (n : ℕ). IsCausedBy (Some e) (entry_fault slots n (record { place = place; bytes = drop (place + 1) image }))) is_count
        (subst (λ (l : List ℕ). IsCausedBy (Some e) (entry_fault slots count (record { place = place; bytes = l }))) is_rest caused) in
        subst (IsCausedBy (Some e)) (sym (faults ∙ faults_here (length records))) (caused_first e _ _ here)

    module _ (r : Record) (len : ℕ) (is_len : len ≡ length (record_bytes r) + 36) (entry : IsEntry slots r (drop (place + 1) image)) where
      abbrev bytes : List ℕ
      bytes = drop (place + 1) image

      sealed_there : take len bytes ≡ sealed (record_bytes r)
      sealed_there =
          ap (λ (l : List ℕ). take len l) entry.front
          ∙ take_at (sealed (record_bytes r)) (drop (length (record_bytes r) + 36) bytes) len (length-sealed (record_bytes r) ∙ sym is_len)

      len_there : entry_len bytes ≡ len
      len_there =
          ap entry_len entry.front
          ∙ ap (λ (n : ℕ). n + 36) (body_len-sealed (record_bytes r) (drop (length (record_bytes r) + 36) bytes) entry.kept.short) ∙ sym is_len

      taken : take (place + (1 + len)) image ≡ take place image ++ 1 ∷ sealed (record_bytes r)
      taken =
          take-add place (1 + len) image ∙ ap (λ (l : List ℕ). take place image ++ l) (ap (λ (l : List ℕ). take (1 + len) l) open_there ∙ heads)
        where
          one_more : 1 + len ≡ suc len
          one_more = omega arith

          heads : take (1 + len) (1 ∷ bytes) ≡ 1 ∷ sealed (record_bytes r)
          heads = ap (λ (n : ℕ). take n (1 ∷ bytes)) one_more ∙ ap (λ (l : List ℕ). 1 ∷ l) sealed_there

      pub read_more : length records < entry_limit slots → IsReadTo slots (records ++ r ∷ []) (place + (1 + len)) image
      read_more room = record {
        front =
            taken ∙ ap (λ (l : List ℕ). l ++ 1 ∷ sealed (record_bytes r)) so_far.front
            ∙ append_assoc (take 16 image) (entries (map record_bytes records)) (1 ∷ sealed (record_bytes r))
            ∙ ap (λ (l : List ℕ). take 16 image ++ l) (sym (spelled_push records r));
        kept = kept_push slots records r so_far.kept entry.kept;
        room = omega (arith, length-push records r, room);
        within = omega (arith, entry.within, is_len, length-drop (place + 1) image, so_far.within);
      }

      -- and the first fault is that of what follows
      pub faults_behind : (count : ℕ) → entry_fault slots count (record { place = place; bytes = drop (place + 1) image }) ≡ None
          → fault_in slots count (entries_from 0 place (drop place image)) ≡ fault_in slots (count + 1) (entries_from 0 (place + (1 + len)) (drop (place + (1 + len)) image))
      faults_behind count none =
          let later : place + 1 + len ≡ place + (1 + len) = omega arith in
          faults_here count
          ∙ ap (λ f. first_of f (fault_in slots (count + 1) (entries_from 0 (place + 1 + entry_len bytes) (drop (entry_len bytes) bytes)))) none
          ∙ ap (λ (n : ℕ). fault_in slots (count + 1) (entries_from 0 (place + 1 + n) (drop n bytes))) len_there
          ∙ ap (λ (l : List ℕ). fault_in slots (count + 1) (entries_from 0 (place + 1 + len) l)) (drop-drop len (place + 1) image)
          ∙ ap (λ (n : ℕ). fault_in slots (count + 1) (entries_from 0 n (drop n image))) later

-- The next entry was read, and so it goes on.
pub record GoesOn (slots : ℕ) (items : List Record) (place : ℕ) (image : List ℕ) (whole : Option JournalEnd) : Type 0 where
  pub so_far : IsReadTo slots items place image
  pub faults : whole ≡ fault_in slots (length items) (entries_from 0 place (drop place image))

pub goes_on : (slots : ℕ) (records items : List Record) (place len count : ℕ) (image rest : List ℕ) (r : Record) (whole : Option JournalEnd)
    → IsReadTo slots records place image → get_or image place 0 ≡ 1
    → whole ≡ fault_in slots (length records) (entries_from 0 place (drop place image))
    → count ≡ length records → rest ≡ drop (place + 1) image → items ≡ records ++ r ∷ [] → len ≡ length (record_bytes r) + 36
    → IsEntry slots r rest → count < entry_limit slots → entry_fault slots count (record { place = place; bytes = rest }) ≡ None
    → GoesOn slots items (place + (1 + len)) image whole
goes_on slots records items place len count image rest r whole so_far is_open faults is_count is_rest is_items is_len entry room none =
    let here : IsEntry slots r (drop (place + 1) image) = subst (IsEntry slots r) is_rest entry in
    let below : length records < entry_limit slots = omega (arith, is_count, room) in
    let faultless : entry_fault slots (length records) (record { place = place; bytes = drop (place + 1) image }) ≡ None =
    subst (λ (n : ℕ). entry_fault slots n (record { place = place; bytes = drop (place + 1) image }) ≡ None) is_count
    (subst (λ (l : List ℕ). entry_fault slots count (record { place = place; bytes = l }) ≡ None) is_rest none) in
    let longer : length records + 1 ≡ length items = sym (ap length is_items ∙ length-push records r) in
    record {
      so_far = subst (λ (l : List Record). IsReadTo slots l (place + (1 + len)) image) (sym is_items) (read_more slots records place image so_far is_open r len is_len here below);
      faults = faults ∙ faults_behind slots records place image so_far is_open r len is_len here (length records) faultless
          ∙ ap (λ (n : ℕ). fault_in slots n (entries_from 0 (place + (1 + len)) (drop (place + (1 + len)) image))) longer;
    }

pub is_journal : (node slots : ℕ) (records : List Record) (place : ℕ) (image : List ℕ) → 1 ≤ slots → slots ≤ 16384 → take 16 image ≡ head node slots
    → IsReadTo slots records place image → get_or image place 0 ≢ 1 → IsJournalOf node slots records image
is_journal node slots records place image some most is_head so_far closed = record {
  some = some;
  most = most;
  within = so_far.room;
  kept = so_far.kept;
  bytes = record {
    gate = get_or image place 0;
    ignored = drop (place + 1) image;
    closed = closed;
    bytes =
        sym (take-append-drop place image)
        ∙ ap (λ (l : List ℕ). l ++ drop place image) (so_far.front ∙ ap (λ (l : List ℕ). l ++ entries (map record_bytes records)) is_head)
        ∙ ap (λ (l : List ℕ). (head node slots ++ entries (map record_bytes records)) ++ l) (gate_there slots records place image so_far);
  };
}

-- what was read ends where its entries do
pub end_of_read : (slots : ℕ) (records : List Record) (place : ℕ) (image : List ℕ) → IsReadTo slots records place image → 16 < length image
    → place ≡ 16 + length (entries (map record_bytes records))
end_of_read slots records place image read long =
    let all : length (take place image) ≡ place = length-take-le place image (omega (arith, read.within)) in
    let first : length (take 16 image) ≡ 16 = length-take-le 16 image (omega (arith, long)) in
    omega (arith, all, first, ap length read.front, length-append (take 16 image) (entries (map record_bytes records)))
