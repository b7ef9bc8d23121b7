-- Minutes of the week, windows, and their texts.
use Rattle.std.specs.Prelude.{◌≡◌, ◌≢◌, ℕ, ◌+◌, ◌-◌, ◌*◌, ◌<◌, ◌==◌, ◌&&◌, not, nat_lt, if◌then◌else◌, List, [], ◌∷◌, ◌++◌, codes, length, slice_get, slice_index, take, drop, position, Option, Some, None}
use Rattle.std.specs.Str.{bytes_eq}
use Rattle.std.specs.Char.{is_ascii_digit}
use Rattle.arc_window.specs.Digits.{two_digits}
use Rattle.arc_window.specs.declared.weekly.Window.{Window}

-- the names of the days, from Monday
abbrev pub day_names : List (List ℕ)
day_names = codes "Mon" ∷ codes "Tue" ∷ codes "Wed" ∷ codes "Thu" ∷ codes "Fri" ∷ codes "Sat" ∷ codes "Sun" ∷ []

-- The text is this minute of the week, as `Mon:00:30`: minute 0 is Monday 00:00, and the last is Sunday 23:59.
pub record NamesMinute (text : List ℕ) (number : ℕ) : Type 0 where
  pub day : ℕ
  pub name : List ℕ
  pub hour : ℕ
  pub minute : ℕ
  pub of_day : slice_get day_names day ≡ Some name
  pub in_day : hour < 24
  pub in_hour : minute < 60
  pub counted : number ≡ day * 1_440 + hour * 60 + minute
  pub spelled : text ≡ name ++ codes ":" ++ two_digits hour ++ codes ":" ++ two_digits minute

-- The text is this window: two different minutes with a dash between them.
pub record NamesWindow (text : List ℕ) (window : Window) : Type 0 where
  pub from : List ℕ
  pub to : List ℕ
  pub begins : NamesMinute from window.from
  pub ends : NamesMinute to window.to
  pub differ : window.from ≢ window.to
  pub spelled : text ≡ from ++ codes "-" ++ to

-- ---- how they are read, from the left

-- the day of this name, from Monday
abbrev pub day_read : List ℕ → Option ℕ
day_read name = position (λ d. bytes_eq d name) day_names

-- the number of two digits
abbrev pub number_read : ℕ → ℕ → Option ℕ
number_read tens ones =
    if is_ascii_digit tens && is_ascii_digit ones then Some ((tens - 48) * 10 + (ones - 48)) else None

infixl 10 ◌>>=◌
abbrev pub ◌>>=◌ : {A B : Type 0} → Option A → (A → Option B) → Option B
None >>= f = None
(Some x) >>= f = f x

-- the minute of the week of a day, an hour and a minute, where the clock shows them
abbrev pub minute_at : ℕ → ℕ → ℕ → Option ℕ
minute_at day hour minute =
    if nat_lt hour 24 && nat_lt minute 60 then Some (day * 1_440 + hour * 60 + minute) else None

-- the minute of nine bytes
unfoldable pub minute_read : List ℕ → Option ℕ
minute_read text =
    if (length text == 9) && (slice_index text 3 == 58) && (slice_index text 6 == 58)
    then (do
      day ← day_read (take 3 text)
      hour ← number_read (slice_index text 4) (slice_index text 5)
      minute ← number_read (slice_index text 7) (slice_index text 8)
      minute_at day hour minute)
    else None

-- the window between two different minutes
abbrev pub window_between : ℕ → ℕ → Option Window
window_between from to = if not (from == to) then Some (record { from = from; to = to }) else None

-- the window of nineteen bytes
unfoldable pub window_read : List ℕ → Option Window
window_read text =
    if (length text == 19) && (slice_index text 9 == 45)
    then (do
      from ← minute_read (take 9 text)
      to ← minute_read (drop 10 text)
      window_between from to)
    else None
