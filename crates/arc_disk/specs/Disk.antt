-- What a disk holds, and what a crash may leave of it.
use Rattle.std.specs.Prelude.{ℕ, ◌≡◌, ◌⊎◌, ◌<◌, ◌≤◌, ◌+◌, max, List, ◌↔◌, ◌++◌, length, take, drop}

-- What a read gives after these bytes were written at this place.
abbrev pub written : List ℕ → ℕ → List ℕ → List ℕ
written old at bytes = take at old ++ bytes ++ drop (at + length bytes) old

-- After a write of n bytes that was cut short: any bytes in its range and past the old end, the same elsewhere.
pub record Torn (at n : ℕ) (old new : List ℕ) : Type 0 where
  pub before : take at new ≡ take at old
  pub after : drop (at + n) new ≡ drop (at + n) old
  pub no_shorter : length old ≤ length new
  pub no_longer : length new ≤ max (length old) (at + n)

-- What a crash may leave after a write of n bytes: what it might have left before, torn in the range.
abbrev pub TearsOnly : ℕ → ℕ → (List ℕ → Type 0) → (List ℕ → Type 0) → Type 0
TearsOnly at n old new = (image : List ℕ) → new image → (former : List ℕ) × old former × Torn at n former image

-- A crash leaves this and nothing else.
abbrev pub Only : List ℕ → (List ℕ → Type 0) → Type 0
Only content may_leave = (image : List ℕ) → may_leave image → image ≡ content

-- Time went on: since an earlier moment a crash might have left what it might have left before, or what it may leave
-- now. Nothing that it might have left is forgotten, except since the very moment that it is now.
pub record Elapses {D : Type 0} (moment : D → ℕ) (may_leave : D → List ℕ → Type 0) (left_since : D → ℕ → List ℕ → Type 0)
    (old new : D) : Type 0 where
  pub nothing_else : (t : ℕ) (image : List ℕ) → t ≤ moment old → left_since new t image → left_since old t image ⊎ may_leave new image
  pub nothing_lost : (t : ℕ) (image : List ℕ) → t < moment new → left_since old t image → left_since new t image

-- What a read gives stays, and a crash may leave nothing that it might not have left before.
pub record Keeps {D : Type 0} (content : D → List ℕ) (may_leave : D → List ℕ → Type 0) (old new : D) : Type 0 where
  pub reads : content new ≡ content old
  pub crash : (image : List ℕ) → may_leave new image → may_leave old image

-- What a read gives stays, and so does what a crash may leave.
pub record IsUntouched {D : Type 0} (content : D → List ℕ) (may_leave : D → List ℕ → Type 0) (old new : D) : Type 0 where
  pub reads : content new ≡ content old
  pub crash : (image : List ℕ) → may_leave new image ↔ may_leave old image

-- A crash came: what a read gives now is what the crash might have left, and another crash leaves just that.
pub record Crashes {D : Type 0} (content : D → List ℕ) (may_leave : D → List ℕ → Type 0) (old new : D) : Type 0 where
  pub left : may_leave old (content new)
  pub settled : Only (content new) (may_leave new)

-- A crash at any moment since old leaves what has P.
pub record LeavesOnly {D : Type 0} (moment : D → ℕ) (left_since : D → ℕ → List ℕ → Type 0) (old new : D) (P : List ℕ → Type 0) : Type 0 where
  pub later : moment old ≤ moment new
  pub each : (image : List ℕ) → left_since new (moment old) image → P image
  -- for a run that began earlier
  pub before : (t : ℕ) (image : List ℕ) → t ≤ moment old → left_since new t image → left_since old t image ⊎ P image
