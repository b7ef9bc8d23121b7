-- The text of a date is read as that date.
use Rattle.std.proofs.Common.{◌≡◌, ℕ, ℤ, pos, negsuc, ◌<ℤ◌, List, Result, Ok, Err, refl, sym, ap, ◌∙◌, arith, rules, inl}
use Rattle.jiff_core.specs.declared.civil.date.Date.{Date}
use Rattle.jiff_core.specs.declared.error.Error.{Error}
use Rattle.jiff_core.specs.Calendar.{IsCivilDate}
use Rattle.jiff_core.specs.Date.{epoch_day}
use Rattle.jiff_core.proofs.SignedLemmas.{signed_arith}
use Rattle.jiff_core.proofs.DateLemmas.{epoch_day-lt, epoch_day_same}
use Rattle.jiff_core.proofs.StandardFacts as facts
use Rattle.jiff.specs.Words.{date_text as jiff_text, parse_date, date_view, date_parts}
use Rattle.jiff_fmt.specs.Temporal.{DateParts}
use Rattle.jiff.proofs.Family.{parse_date-date_text}
use Rattle.arc_window.specs.Date.{NamesDay}

-- the date with these parts
civil_date : (year : ℤ) (month day : ℕ) → IsCivilDate year month day → Date
civil_date year month day in_calendar =
    record { year = year; month = month; day = day; year_in = in_calendar.0; month_in = in_calendar.1; day_in = in_calendar.2 }

-- a text that names a day is the text of a date with its number
date_named : (text : List ℕ) (number : ℕ) → NamesDay text number →
    (d : Date) × (jiff_text d ≡ text) × (epoch_day d ≡ pos number)
unfolding civil_date
date_named text number named =
    (civil_date (pos named.year) named.month named.day named.in_calendar, sym named.spelled, named.counted)

-- the first day
first : Date
first = record { year = pos 1970; month = 1; day = 1; year_in = search rules; month_in = search rules; day_in = search rules }

-- a year below 0 is before the first day
early : (d : Date) (n : ℕ) → d.year ≡ negsuc n → epoch_day d <ℤ pos 0
unfolding first
early d n year =
    let before : d.year <ℤ pos 1970 = rw year (search rules) in
    let order = epoch_day-lt d first (inl before) in
    rw (← facts.known_days.0) order

-- the calendar has each date
in_calendar_of : (d : Date) → IsCivilDate d.year d.month d.day
in_calendar_of d = (d.year_in, d.month_in, d.day_in)

-- the parts of a date give its text and its number
same_parts : (a b : Date) → date_parts a ≡ date_parts b → (jiff_text a ≡ jiff_text b) × (epoch_day a ≡ epoch_day b)
same_parts a b parts =
    let year = ap (λ (p : DateParts). p.year) parts in
    let month = ap (λ (p : DateParts). p.month) parts in
    let day = ap (λ (p : DateParts). p.day) parts in
    (rw (year, month, day) refl, epoch_day_same a b year month day)

-- the text of a date that isn't before 1970-01-01 names its day
pub names : (d : Date) (text : List ℕ) (number : ℕ) → jiff_text d ≡ text → epoch_day d ≡ pos number → NamesDay text number
names d text number spelled counted = by_year d.year refl
  where
    by_year : (year : ℤ) → d.year ≡ year → NamesDay text number
    by_year (pos n) year = record {
      year = n;
      month = d.month;
      day = d.day;
      in_calendar = rw year at (in_calendar_of d);
      counted = rw year at counted;
      spelled = rw year at (sym spelled);
    }
    by_year (negsuc n) year = absurd (omega (arith, signed_arith, early d n year))

-- two dates of one text have the same parts
same_text : (a b : Date) → jiff_text a ≡ jiff_text b → date_parts a ≡ date_parts b
same_text a b same =
    let read = sym (parse_date-date_text a) ∙ ap parse_date same ∙ parse_date-date_text b in
    cc

-- what a date's text is read as is that date
pub reads : (d : Date) (r : Result Date Error) → date_view r ≡ parse_date (jiff_text d) →
    (found : Date) × (r ≡ Ok found) × (jiff_text found ≡ jiff_text d)
reads d (Err e) read =
    let other : Err e ≡ Ok (date_parts d) = read ∙ parse_date-date_text d in
    absurd (cc)
reads d (Ok found) read =
    let same = read ∙ parse_date-date_text d in
    let parts : date_parts found ≡ date_parts d = cc in
    (found, refl, (same_parts found d parts).0)

-- a text names no other day than that of the date with this text
pub number_named : (d : Date) (text : List ℕ) (number : ℕ) → jiff_text d ≡ text → NamesDay text number → epoch_day d ≡ pos number
number_named d text number spelled named =
    let other = date_named text number named in
    (same_parts d other.0 (same_text d other.0 (spelled ∙ sym other.1))).1 ∙ other.2

-- a text that is no date's names no day
pub names_none : (text : List ℕ) (number : ℕ) → ((d : Date) → ¬ (jiff_text d ≡ text)) → ¬ (NamesDay text number)
names_none text number none named = let d = date_named text number named in none d.0 d.1

-- one text is read once
pub parse_text : {a b : List ℕ} → a ≡ b → parse_date a ≡ parse_date b
parse_text same = ap parse_date same
