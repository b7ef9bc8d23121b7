-- What happened to a disk in memory, and what follows from it: what a read gives, and what a crash may leave.
use Rattle.std.specs.Prelude.{ℕ, ◌≡◌, ◌⊎◌, ◌<◌, zero, suc, nat_le, if◌then◌else◌, List, [], ◌∷◌, ◌++◌, length}
use Rattle.arc_disk.specs.Disk.{Torn, written}
use Rattle.arc_disk.specs.declared.range.Range.{Range}

-- What changed the disk, with what the clock said afterwards: a write, a sync of what waited, or a crash with the byte
-- that it left in what waited.
pub data Event : Type 0 where
  Write : (time at : ℕ) (bytes : List ℕ) → Event
  Sync : (time : ℕ) → Event
  Crash : (time fill : ℕ) → Event

-- A disk's bytes at first, what happened to them since, and what the clock says.
pub record Past : Type 0 where
  pub first : List ℕ
  pub events : List Event
  pub clock : ℕ

-- How a disk stands: what a read gives, what a read gave after the last sync or crash, and the ranges written since,
-- which wait for a sync.
pub record Standing : Type 0 where
  pub content : List ℕ
  pub settled : List ℕ
  pub waiting : List Range

-- The content with this byte in n places from a place on, as far as it goes.
abbrev pub filled : ℕ → ℕ → ℕ → List ℕ → List ℕ
filled fill at n [] = []
filled fill (suc at) n (byte ∷ content) = byte ∷ filled fill at n content
filled fill zero zero (byte ∷ content) = byte ∷ content
filled fill zero (suc n) (byte ∷ content) = fill ∷ filled fill zero n content

-- The content with this byte in each of these ranges.
abbrev pub all_filled : ℕ → List Range → List ℕ → List ℕ
all_filled fill [] content = content
all_filled fill (range ∷ ranges) content = all_filled fill ranges (filled fill range.at range.len content)

-- All is on the disk.
abbrev pub at_rest : List ℕ → Standing
at_rest content = record { content = content; settled = content; waiting = [] }

-- After an event. A write past a gap does nothing.
abbrev pub after : Standing → Event → Standing
after s (Write time at bytes) =
    if nat_le at (length s.content)
    then record {
      content = written s.content at bytes;
      settled = s.settled;
      waiting = s.waiting ++ record { at = at; len = length bytes } ∷ [];
    }
    else s
after s (Sync time) = at_rest s.content
after s (Crash time fill) = at_rest (all_filled fill s.waiting s.content)

-- After these events, the first of them first.
abbrev pub after_all : Standing → List Event → Standing
after_all s [] = s
after_all s (event ∷ events) = after_all (after s event) events

-- How a disk stands now.
abbrev pub standing : Past → Standing
standing past = after_all (at_rest past.first) past.events

-- What is settled, torn in each of these ranges, one after another.
abbrev pub IsTorn : List Range → List ℕ → List ℕ → Type 0
IsTorn [] settled image = image ≡ settled
IsTorn (range ∷ ranges) settled image =
    (between : List ℕ) × Torn range.at range.len settled between × IsTorn ranges between image

-- What a crash may leave of a disk that stands so: any bytes in the ranges that wait.
abbrev pub MayLeave : Standing → List ℕ → Type 0
MayLeave s image = IsTorn s.waiting s.settled image

-- What the clock said after an event.
abbrev pub time_of : Event → ℕ
time_of (Write time at bytes) = time
time_of (Sync time) = time
time_of (Crash time fill) = time

-- What a crash before one of these events, and not before t, might have left.
abbrev pub HadLeft : Standing → List Event → ℕ → List ℕ → Type 0
HadLeft s [] t image = ⊥
HadLeft s (event ∷ events) t image = ((t < time_of event) × MayLeave s image) ⊎ HadLeft (after s event) events t image

-- What a crash since t might have left: what it may leave now, or might have left before.
abbrev pub LeftSince : Past → ℕ → List ℕ → Type 0
LeftSince past t image =
    MayLeave (standing past) image ⊎ ((t < past.clock) × HadLeft (at_rest past.first) past.events t image)
