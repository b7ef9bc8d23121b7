use Rattle.std.proofs.Common.{◌≡◌, ◌+◌, ◌%◌, ◌/◌, ℕ, pos, arith, ◌∙◌, sym}
use Rattle.jiff_core.specs.Calendar.{weekday_number}
use Rattle.jiff_core.proofs.SignedLemmas.{signed_arith}
use Rattle.arc_window.specs.Blocked.{day_of, minute_of_week}
use Rattle.arc_window.proofs.blocking.weeks_follow_the_calendar.Goals as goal

-- a day that isn't before 1970-01-01 has the weekday that many days after Thursday
weekday_of : (n : ℕ) → weekday_number (pos n) ≡ (n + 3) % 7
unfolding weekday_number
weekday_of n = omega (arith, signed_arith)

-- a week has 10,080 minutes, and a day 1,440
day_of_week : (now : ℕ) → minute_of_week now / 1440 ≡ (day_of now + 3) % 7
day_of_week now = omega arith

pub returns : goal.returns
returns c now = day_of_week now ∙ sym (weekday_of (day_of now))
