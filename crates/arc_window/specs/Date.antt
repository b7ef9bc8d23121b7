-- Dates and their texts.
use Rattle.std.specs.Prelude.{◌≡◌, ℕ, pos, List, ◌++◌, codes}
use Rattle.jiff_core.specs.Calendar.{IsCivilDate, days_from_civil}
use Rattle.arc_window.specs.Digits.{two_digits, four_digits}

-- a date as `YYYY-MM-DD`
abbrev pub date_text : ℕ → ℕ → ℕ → List ℕ
date_text year month day = four_digits year ++ codes "-" ++ two_digits month ++ codes "-" ++ two_digits day

-- The text is the date of the day with this number: 1970-01-01 is day 0, and the last is 9999-12-31.
pub record NamesDay (text : List ℕ) (number : ℕ) : Type 0 where
  pub year : ℕ
  pub month : ℕ
  pub day : ℕ
  pub in_calendar : IsCivilDate (pos year) month day
  pub counted : days_from_civil (pos year) month day ≡ pos number
  pub spelled : text ≡ date_text year month day
