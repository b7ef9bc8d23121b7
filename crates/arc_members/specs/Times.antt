-- Texts of dates and of times to go.
use Rattle.std.specs.Prelude.{ℕ, ◌+◌, ◌*◌, ◌&&◌, ◌==◌, ℤ, pos, negsuc, Bool, false, not, List, [], ◌∷◌, length, slice_index, Option, Some, None, option_map, if◌then◌else◌}
use Rattle.std.specs.Str.{all_ascii_digits}
use Rattle.std.specs.Str.Parse.{digits_value}
use Rattle.jiff_core.specs.Calendar.{days_from_civil, days_in_month}
use Rattle.arc_window.specs.Weekly.{number_read, ◌>>=◌}
use Rattle.arc_members.specs.Reading.{between}

-- decimal digits that begin with 1 to 9
abbrev pub begins_above_0 : List ℕ → Bool
begins_above_0 [] = false
begins_above_0 (digit ∷ others) = not (digit == 48) && all_ascii_digits (digit ∷ others)

-- the number that they spell, from 1 to so much
unfoldable pub positive : ℕ → List ℕ → Option ℕ
positive most digits =
    if begins_above_0 digits && between 1 most (digits_value 10 digits) then Some (digits_value 10 digits) else None

-- what stands before this byte at the end
unfoldable pub before_last : ℕ → List ℕ → Option (List ℕ)
before_last unit [] = None
before_last unit (b ∷ []) = if b == unit then Some [] else None
before_last unit (b ∷ c ∷ text) = option_map (λ front. b ∷ front) (before_last unit (c ∷ text))

-- 1 to 72 hours of 60 minutes
abbrev pub hours_in : Option (List ℕ) → Option ℕ
hours_in None = None
hours_in (Some digits) = option_map (λ hours. 60 * hours) (positive 72 digits)

-- 1 to 4,320 minutes, or else hours
abbrev pub minutes_or : Option (List ℕ) → Option ℕ → Option ℕ
minutes_or None hours = hours
minutes_or (Some digits) hours = positive 4_320 digits

-- minutes, in digits with `m` or `h` behind them
unfoldable pub minutes_of : List ℕ → Option ℕ
minutes_of text = minutes_or (before_last 109 text) (hours_in (before_last 104 text))

-- ---- dates

-- a day that isn't before 1970-01-01
abbrev pub not_before : ℤ → Option ℕ
not_before (pos day) = Some day
not_before (negsuc before) = None

-- the number of a day that the calendar has, counted from 1970-01-01
unfoldable pub day_number : ℕ → ℕ → ℕ → Option ℕ
day_number year month day =
    if between 1 12 month && between 1 (days_in_month (pos year) month) day
    then not_before (days_from_civil (pos year) month day)
    else None

-- a number of four digits
abbrev pub year_read : List ℕ → Option ℕ
year_read text = do
  century ← number_read (slice_index text 0) (slice_index text 1)
  year ← number_read (slice_index text 2) (slice_index text 3)
  Some (century * 100 + year)

-- the number of the day that is written `YYYY-MM-DD`
unfoldable pub day_of : List ℕ → Option ℕ
day_of text =
    if (length text == 10) && (slice_index text 4 == 45) && (slice_index text 7 == 45)
    then (do
      year ← year_read text
      month ← number_read (slice_index text 5) (slice_index text 6)
      day ← number_read (slice_index text 8) (slice_index text 9)
      day_number year month day)
    else None
