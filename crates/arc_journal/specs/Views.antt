-- What an image shows by its bytes alone: its head, views of its entries, and the first fault of head and entries.
use Rattle.std.specs.Prelude.{ℕ, ◌≡◌, ◌≢◌, ◌≤◌, ◌<◌, ◌+◌, nat_le, not, if◌then◌else◌, List, [], ◌∷◌, length, take, drop, slice_index, Option, Some, None, MatchOption}
use Rattle.std.specs.Str.{bytes_eq}
use Rattle.sha2.specs.Sha256.{sha256}
use Rattle.arc_journal.specs.Layout.{entry_limit, head}
use Rattle.arc_journal.specs.Bodies.{record_of}
use Rattle.arc_journal.specs.Image.{Entry, body_in, entries_from, entries_of, first_of, head_fault, is_below_or_none, is_whole, stored_digest}
use Rattle.arc_journal.specs.Faults.{end_of, end_of_found}
use Rattle.arc_journal.specs.declared.end.JournalEnd.{JournalEnd}
use Rattle.arc_journal.specs.declared.end.JournalEnd.TheVariants.{NotOurs, Rotten}
use Rattle.arc_journal.specs.declared.image.Image.{Image}
use Rattle.arc_journal.specs.declared.image.Records.{Records}
use Rattle.arc_journal.specs.declared.view.RecordView.{RecordView}

-- An entry as it is seen: the place of its gate, and its body.
pub record Seen : Type 0 where
  pub place : ℕ
  pub body : List ℕ

-- The entry that a view shows.
abbrev pub seen_by : RecordView → Seen
seen_by view = record { place = view.place; body = view.body.now }

-- An entry of an image as it is seen.
abbrev pub seen_of : Entry → Seen
seen_of entry = record { place = entry.place; body = body_in entry.bytes }

-- The first test that an entry fails by its bytes alone: its length and whether it is whole, and then its digest.
unfoldable pub bytes_fault : Entry → Option JournalEnd
bytes_fault entry =
    if not (is_whole entry.bytes) then Some (NotOurs entry.place)
    else if not (bytes_eq (stored_digest entry.bytes) (sha256 (body_in entry.bytes)))
    then Some (Rotten entry.place (stored_digest entry.bytes) (sha256 (body_in entry.bytes)))
    else None

-- The first test that an entry fails whose bytes have no fault, and before which so many stand: that its body spells a
-- record of the list, and that there is room for it.
unfoldable pub record_fault : (slots count : ℕ) → Seen → Option JournalEnd
record_fault slots count entry =
    if not (is_below_or_none slots (record_of entry.body)) then Some (NotOurs entry.place)
    else if nat_le (entry_limit slots) count then Some (NotOurs entry.place)
    else None

-- What is seen where there is no fault before it.
abbrev pub seen_unless : Option JournalEnd → List Seen → List Seen
seen_unless None seen = seen
seen_unless (Some fault) seen = []

-- What is seen of these entries: all before the first whose bytes are at fault.
abbrev pub seen_in : List Entry → List Seen
seen_in [] = []
seen_in (entry ∷ entries) = seen_unless (bytes_fault entry) (seen_of entry ∷ seen_in entries)

-- The first fault of the bytes of these entries.
abbrev pub bytes_fault_in : List Entry → Option JournalEnd
bytes_fault_in [] = None
bytes_fault_in (entry ∷ entries) = first_of (bytes_fault entry) (bytes_fault_in entries)

-- The node that the head of an image names.
abbrev pub node_in : List ℕ → ℕ
node_in image = slice_index image 8

-- The entries that an image shows: none where its head is at fault.
abbrev pub seen_of_image : List ℕ → List Seen
seen_of_image image = seen_unless (head_fault (node_in image) image) (seen_in (entries_of image))

-- The first fault of the bytes of an image: of its head, as that of a journal of the node that it names, or of an entry.
abbrev pub image_fault : List ℕ → Option JournalEnd
image_fault image = first_of (head_fault (node_in image) image) (bytes_fault_in (entries_of image))

-- An image begins with the head of a journal of this node and this greatest length of the list.
pub record BeginsWithHead (node slots : ℕ) (image : List ℕ) : Type 0 where
  pub some : 1 ≤ slots
  pub most : slots ≤ 16384
  pub bytes : take 16 image ≡ head node slots

-- An image begins with no such head.
abbrev pub HasNoHead : List ℕ → Type 0
HasNoHead image = (node slots : ℕ) → BeginsWithHead node slots image → ⊥

-- Each of these entries is a range of the image: its gate is open, its body stands behind the four bytes of its length,
-- and its digest behind the body. They stand in order and apart, from a place on, and a gate stands behind the last.
abbrev pub AreRanges : List ℕ → ℕ → List Seen → Type 0
AreRanges image from [] = Unit {0}
AreRanges image from (entry ∷ entries) =
    (from ≤ entry.place) × (slice_index image entry.place ≡ 1)
    × (take (length entry.body) (drop (entry.place + 5) image) ≡ entry.body)
    × (take 32 (drop (entry.place + (5 + length entry.body)) image) ≡ sha256 entry.body)
    × (entry.place + (37 + length entry.body) < length image)
    × AreRanges image (entry.place + (37 + length entry.body)) entries

-- The bytes of an image.
abbrev pub bytes_of : Image → List ℕ
bytes_of image = image.bytes.now

-- The entry whose gate is next in a walk.
abbrev pub at_hand : Records → Entry
at_hand records = record { place = records.place; bytes = drop (records.place + 1) records.bytes.now }

-- A step of a walk saw the entry at hand, and went on behind it.
pub record Passes (old new : Records) (view : RecordView) : Type 0 where
  pub gate : slice_index old.bytes.now old.place ≡ 1
  pub sound : bytes_fault (at_hand old) ≡ None
  pub seen : seen_by view ≡ seen_of (at_hand old)
  pub further : new.place ≡ old.place + (37 + length view.body.now)
  pub faultless : new.fault ≡ None

-- A step of a walk without a fault ended it: at a gate that isn't open, or at the fault of the entry at hand.
abbrev pub Stops : Records → Records → Type 0
Stops old new = (new.place ≡ old.place) × MatchOption new.fault (slice_index old.bytes.now old.place ≢ 1)
    (λ fault. (slice_index old.bytes.now old.place ≡ 1) × (bytes_fault (at_hand old) ≡ Some (end_of fault)))

-- The entries that are still to be seen.
abbrev pub still_seen : Records → List Seen
still_seen records = seen_unless (end_of_found records.fault) (seen_in (entries_from 0 records.place (drop records.place records.bytes.now)))

-- The first fault, as far as it was met or is still to be.
abbrev pub still_faulty : Records → Option JournalEnd
still_faulty records = first_of (end_of_found records.fault) (bytes_fault_in (entries_from 0 records.place (drop records.place records.bytes.now)))
