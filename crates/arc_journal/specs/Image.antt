-- What the bytes of an image say: its entries, their records, and the first fault.
use Rattle.std.specs.Prelude.{ℕ, zero, suc, ◌≡◌, ◌≤◌, ◌<◌, ◌+◌, ◌==◌, nat_lt, nat_le, nat_eq, ◌&&◌, ◌||◌, not, Bool, true, false, if◌then◌else◌, List, [], ◌∷◌, ◌++◌, length, take, drop, map, All, Option, Some, None}
use Rattle.std.specs.Int.{w32, from_be_bytes}
use Rattle.std.specs.List.{filter_map}
use Rattle.std.specs.Str.{bytes_eq}
use Rattle.sha2.specs.Sha256.{sha256}
use Rattle.arc_data.specs.declared.record.Record.{Record}
use Rattle.arc_data.specs.declared.record.Record.TheVariants.{Opened, Promised, Voted, Closed}
use Rattle.arc_data.specs.Valid.{IsValidRecord}
use Rattle.arc_journal.specs.Layout.{signature, sealed, entries, entry_limit, IsImageOf}
use Rattle.arc_command.specs.Spelling.{record_bytes}
use Rattle.arc_journal.specs.Bodies.{record_of}
use Rattle.arc_journal.specs.declared.end.JournalEnd.{JournalEnd}
use Rattle.arc_journal.specs.declared.end.JournalEnd.TheVariants.{Disk, NotOurs, Rotten, Memory}

-- An entry of an image: the place of its gate, and the bytes behind the gate.
pub record Entry : Type 0 where
  pub place : ℕ
  pub bytes : List ℕ

-- The length of an entry's body.
abbrev pub body_len : List ℕ → ℕ
body_len bytes = from_be_bytes w32 (take 4 bytes)

-- The body of an entry.
abbrev pub body_in : List ℕ → List ℕ
body_in bytes = take (body_len bytes) (drop 4 bytes)

-- The digest that stands behind the body.
abbrev pub stored_digest : List ℕ → List ℕ
stored_digest bytes = take 32 (drop (4 + body_len bytes) bytes)

-- How many bytes an entry has behind its gate.
abbrev pub entry_len : List ℕ → ℕ
entry_len bytes = body_len bytes + 36

-- The entries of an image from a place on, behind so many bytes of an entry that is known already. At an open gate an
-- entry begins; at any other they end.
unfoldable pub entries_from : (known place : ℕ) → List ℕ → List Entry
entries_from known place [] = []
entries_from zero place (gate ∷ bytes) =
    if gate == 1 then record { place = place; bytes = bytes } ∷ entries_from (entry_len bytes) (place + 1) bytes else []
entries_from (suc known) place (byte ∷ bytes) = entries_from known (place + 1) bytes

-- The entries of an image whose gates are open, up to the first gate that isn't.
abbrev pub entries_of : List ℕ → List Entry
entries_of image = entries_from 0 16 (drop 16 image)

-- The records of an image.
unfoldable pub records_of : List ℕ → List Record
records_of image = filter_map (λ entry. record_of (body_in entry.bytes)) (entries_of image)

-- The greatest length of the list that the head names.
abbrev pub slots_in : List ℕ → ℕ
slots_in image = from_be_bytes w32 (take 4 (drop 12 image))

-- A command is closed below this slot, where one is.
abbrev pub is_below : ℕ → Record → Bool
is_below slots (Opened inc) = true
is_below slots (Promised from ballot) = true
is_below slots (Voted slot ballot command) = true
is_below slots (Closed slot command) = nat_lt slot slots

-- An entry within its limits, that closes no slot beyond the list.
abbrev pub IsWithin : ℕ → Record → Type 0
IsWithin slots entry = IsValidRecord entry × (is_below slots entry ≡ true)

-- Entries within their limits, that close no slot beyond the list.
abbrev pub AreWithin : ℕ → List Record → Type 0
AreWithin slots entries = All (IsWithin slots) entries

-- Whether a record is there, and closes no slot from this one on.
abbrev pub is_below_or_none : ℕ → Option Record → Bool
is_below_or_none slots None = false
is_below_or_none slots (Some r) = is_below slots r

-- The length of the body is in its range, and the entry lies in the image with the next gate.
abbrev pub is_whole : List ℕ → Bool
is_whole bytes = nat_lt 0 (body_len bytes) && nat_le (body_len bytes) 1037 && nat_lt (entry_len bytes) (length bytes)

-- The first test that an entry fails, before which so many stand.
abbrev pub entry_fault : ℕ → ℕ → Entry → Option JournalEnd
entry_fault slots count entry =
    if not (is_whole entry.bytes) then Some (NotOurs entry.place)
    else if not (bytes_eq (stored_digest entry.bytes) (sha256 (body_in entry.bytes)))
    then Some (Rotten entry.place (stored_digest entry.bytes) (sha256 (body_in entry.bytes)))
    else if not (is_below_or_none slots (record_of (body_in entry.bytes))) then Some (NotOurs entry.place)
    else if nat_le (entry_limit slots) count then Some (NotOurs entry.place)
    else None

-- The first of two faults.
abbrev pub first_of : Option JournalEnd → Option JournalEnd → Option JournalEnd
first_of None later = later
first_of (Some fault) later = Some fault

-- The first fault of these entries, before which so many stand.
abbrev pub fault_in : ℕ → ℕ → List Entry → Option JournalEnd
fault_in slots count [] = None
fault_in slots count (entry ∷ entries) = first_of (entry_fault slots count entry) (fault_in slots (count + 1) entries)

-- How many bytes two lists have in common at their front.
abbrev pub common : List ℕ → List ℕ → ℕ
common [] ys = 0
common (x ∷ xs) [] = 0
common (x ∷ xs) (y ∷ ys) = if x == y then common xs ys + 1 else 0

-- The first fault of a journal's head, and of the gate behind it.
unfoldable pub head_fault : ℕ → List ℕ → Option JournalEnd
head_fault node image =
    if nat_lt (common (signature node) image) 12 then Some (NotOurs (common (signature node) image))
    else if nat_lt (length image) 16 then Some (NotOurs (length image))
    else if slots_in image == 0 || nat_lt 16384 (slots_in image) then Some (NotOurs 12)
    else if length image == 16 then Some (NotOurs 16)
    else None

-- The first fault of an image as a journal of this node.
unfoldable pub first_fault : ℕ → List ℕ → Option JournalEnd
first_fault node image = first_of (head_fault node image) (fault_in (slots_in image) 0 (entries_of image))

-- The first fault of an image as a journal of this node and this greatest length of the list: an image that is a journal
-- of the node, but names another length, is at fault where the head names it.
abbrev pub own_fault : (node slots : ℕ) → List ℕ → Option JournalEnd
own_fault node slots image =
    first_of (first_fault node image) (if nat_eq (slots_in image) slots then None else Some (NotOurs 12))

-- How a reading of these bytes ended has its cause in them, and yields to want of memory alone.
abbrev pub IsCausedBy : Option JournalEnd → Option JournalEnd → Type 0
IsCausedBy None fault = fault ≡ None
IsCausedBy (Some Disk) fault = fault ≡ Some Disk
IsCausedBy (Some (NotOurs place)) fault = fault ≡ Some (NotOurs place)
IsCausedBy (Some (Rotten place stored computed)) fault = fault ≡ Some (Rotten place stored computed)
IsCausedBy (Some Memory) fault = Unit {0}

-- A record that a journal takes: its spelling is read again and is short enough, and it closes no slot beyond the list.
pub record IsKept (slots : ℕ) (r : Record) : Type 0 where
  pub some : 1 ≤ length (record_bytes r)
  pub short : length (record_bytes r) ≤ 1037
  pub reads : record_of (record_bytes r) ≡ Some r
  pub below : is_below slots r ≡ true

-- All of these are records that a journal takes.
abbrev pub AreKept : ℕ → List Record → Type 0
AreKept slots [] = Unit {0}
AreKept slots (r ∷ rs) = IsKept slots r × AreKept slots rs

-- An image of a journal of this node and this greatest length of the list, with these records.
pub record IsJournalOf (node slots : ℕ) (records : List Record) (image : List ℕ) : Type 0 where
  pub some : 1 ≤ slots
  pub most : slots ≤ 16384
  pub within : length records ≤ entry_limit slots
  pub kept : AreKept slots records
  pub bytes : IsImageOf node slots (map record_bytes records) image

-- An entry with this record stands at the front of these bytes, behind its gate, and a gate behind it.
pub record IsEntry (slots : ℕ) (r : Record) (bytes : List ℕ) : Type 0 where
  pub kept : IsKept slots r
  pub front : bytes ≡ sealed (record_bytes r) ++ drop (length (record_bytes r) + 36) bytes
  pub within : length (record_bytes r) + 36 < length bytes

-- Of an image the head and the entries with these records were read, up to the gate at this place.
pub record IsReadTo (slots : ℕ) (records : List Record) (place : ℕ) (image : List ℕ) : Type 0 where
  pub front : take place image ≡ take 16 image ++ entries (map record_bytes records)
  pub kept : AreKept slots records
  pub room : length records ≤ entry_limit slots
  pub within : place < length image

-- The bytes were not refused: the disk failed, or there was no memory.
abbrev pub IsNoRefusal : JournalEnd → Type 0
IsNoRefusal Disk = Unit {0}
IsNoRefusal (NotOurs place) = ⊥
IsNoRefusal (Rotten place stored computed) = ⊥
IsNoRefusal Memory = Unit {0}
