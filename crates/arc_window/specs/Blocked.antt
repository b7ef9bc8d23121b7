-- When a practice run may not start.
use Rattle.std.specs.Prelude.{ℕ, ◌+◌, ◌*◌, ◌/◌, ◌%◌, ◌==◌, ◌&&◌, ◌||◌, nat_lt, nat_le, if◌then◌else◌, Bool, List, Option, Some, None}
use Rattle.std.specs.List.{list_any}
use Rattle.arc_window.specs.declared.weekly.Window.{Window}
use Rattle.arc_window.specs.declared.blocking.BlockedBy.{BlockedBy}
use Rattle.arc_window.specs.declared.blocking.BlockedBy.TheVariants as by

-- the number of the day of a moment, which is given in milliseconds since 1970-01-01
abbrev pub day_of : ℕ → ℕ
day_of now = now / 86_400_000

-- the minute of the week of a moment: Monday 00:00 is 0, and 1970-01-01 was a Thursday, three days after Monday
abbrev pub minute_of_week : ℕ → ℕ
minute_of_week now = (now / 60_000 + 3 * 1_440) % 10_080

-- A window has its minutes from `from` up to but not including `to`; where `to` is the smaller, they go on behind
-- the end of Sunday.
abbrev pub is_within : Window → ℕ → Bool
is_within window minute =
    if nat_lt window.to window.from
    then nat_le window.from minute || nat_lt minute window.to
    else nat_le window.from minute && nat_lt minute window.to

-- what blocks a moment: its day, where it is listed, else a window that has its minute of the week
abbrev pub blocked_at : List ℕ → List Window → ℕ → Option BlockedBy
blocked_at dates windows now =
    if list_any (λ date. date == day_of now) dates then Some by.Date
    else (if list_any (λ window. is_within window (minute_of_week now)) windows then Some by.Window else None)
