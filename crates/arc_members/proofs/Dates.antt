-- What is read as a date is the day that the text names.
use Rattle.std.proofs.Common.{◌≡◌, ◌↔◌, ℕ, ℤ, pos, negsuc, ◌+◌, ◌-◌, ◌*◌, ◌/◌, ◌%◌, ◌<◌, ◌≤◌, ◌==◌, ◌&&◌, Bool, true, false, cond, leb, List, [], ◌∷◌, length, get_or, Option, Some, None, Result, Ok, refl, ap, ◌∙◌, arith}
use Rattle.std.specs.Prelude.{slice_index}
use Rattle.std.specs.Result.{result_ok}
use Rattle.std.specs.Char.{is_ascii_digit}
use Rattle.std.proofs.Math.Seq.{drop-cons}
use Rattle.std.proofs.lemmas.List.{drop_all}
use Rattle.std.proofs.lemmas.Bool.{eqb-true, leb-true, le-leb}
use Rattle.std.proofs.lemmas.Bool.Decides.{nat_tests}
use Rattle.jiff_core.specs.Calendar.{IsCivilDate, days_from_civil, days_in_month}
use Rattle.jiff_core.proofs.SignedLemmas.{signed_arith}
use Rattle.arc_window.specs.Date.{NamesDay, date_text}
use Rattle.arc_window.specs.Weekly.{number_read, ◌>>=◌}
use Rattle.arc_window.specs.declared.date.DateEnd.{DateEnd}
use Rattle.serde_json.specs.Data.{Data}
use Rattle.std.specs.Option.{ok_or}
use Rattle.arc_members.specs.declared.code.Code.TheVariants as code
use Rattle.arc_members.specs.Reading.{between, text_in}
use Rattle.arc_members.specs.Values.{date_in}
use Rattle.arc_members.specs.Times.{day_of, day_number, not_before, year_read}
use Rattle.arc_members.proofs.Windows.{same_reading}

-- ---- steps that may find nothing

bind_found : {A B : Type 0} (o : Option A) (f : A → Option B) (y : B) → (o >>= f) ≡ Some y → (x : A) × (o ≡ Some x) × (f x ≡ Some y)
bind_found None f y found = absurd (cc)
bind_found (Some x) f y found = (x, refl, found)

if_found : {A : Type 0} (b : Bool) (o : Option A) (y : A) → cond b o None ≡ Some y → (b ≡ true) × (o ≡ Some y)
if_found true o y found = (refl, found)
if_found false o y found = absurd (cc)

and_true : (a b : Bool) → (a && b) ≡ true → (a ≡ true) × (b ≡ true)
and_true true b both = (refl, both)
and_true false b both = absurd (cc)

true_and : (a b : Bool) → a ≡ true → b ≡ true → (a && b) ≡ true
true_and a b first second = rw (first, second) refl

-- ---- digits

digit_is : (c : ℕ) → is_ascii_digit c ≡ true → (48 ≤ c) × (c ≤ 57)
digit_is c test = grind (arith, nat_tests)

is_digit : (n : ℕ) → n < 10 → is_ascii_digit (48 + n) ≡ true
is_digit n small = grind (arith, nat_tests)

-- two bytes that are read are the digits of a number below 100
number_reads : (tens ones n : ℕ) → number_read tens ones ≡ Some n → (tens ≡ 48 + n / 10) × (ones ≡ 48 + n % 10) × (n < 100)
number_reads tens ones n read =
    let found = if_found (is_ascii_digit tens && is_ascii_digit ones) (Some ((tens - 48) * 10 + (ones - 48))) n read in
    let both = and_true (is_ascii_digit tens) (is_ascii_digit ones) found.0 in
    let t = digit_is tens both.0 in
    let o = digit_is ones both.1 in
    let value : (tens - 48) * 10 + (ones - 48) ≡ n = cc (found.1) in
    (omega arith, omega arith, omega arith)

-- and each such number's digits are read
number_named : (n : ℕ) → n < 100 → number_read (48 + n / 10) (48 + n % 10) ≡ Some n
number_named n small =
    let tests = true_and (is_ascii_digit (48 + n / 10)) (is_ascii_digit (48 + n % 10)) (is_digit (n / 10) (omega arith)) (is_digit (n % 10) (omega arith)) in
    let value : (48 + n / 10 - 48) * 10 + (48 + n % 10 - 48) ≡ n = omega arith in
    rw (tests, value) refl

-- ---- the calendar

-- what isn't before the first day has its number
natural : (z : ℤ) (n : ℕ) → not_before z ≡ Some n → z ≡ pos n
natural (pos m) n is = cc
natural (negsuc m) n is = absurd cc

between_true : (least most n : ℕ) → between least most n ≡ true → (least ≤ n) × (n ≤ most)
between_true least most n is = let both = and_true (leb least n) (leb n most) is in (leb-true least n both.0, leb-true n most both.1)

true_between : (least most n : ℕ) → least ≤ n → n ≤ most → between least most n ≡ true
true_between least most n low high = true_and _ _ (le-leb least n low) (le-leb n most high)

-- a day that the calendar has, by its parts
day_numbered : (year month day number : ℕ) → year < 10000 → day_number year month day ≡ Some number →
    IsCivilDate (pos year) month day × (days_from_civil (pos year) month day ≡ pos number)
unfolding day_number
day_numbered year month day number small found =
    let parts = if_found (between 1 12 month && between 1 (days_in_month (pos year) month) day) (not_before (days_from_civil (pos year) month day)) number found in
    let both = and_true (between 1 12 month) (between 1 (days_in_month (pos year) month) day) parts.0 in
    let of_year = between_true 1 12 month both.0 in
    let of_month = between_true 1 (days_in_month (pos year) month) day both.1 in
    (((omega (arith, signed_arith), omega (arith, signed_arith)), of_year, of_month), natural (days_from_civil (pos year) month day) number parts.1)

numbered_day : (year month day number : ℕ) → IsCivilDate (pos year) month day → days_from_civil (pos year) month day ≡ pos number →
    day_number year month day ≡ Some number
unfolding day_number
numbered_day year month day number civil counted =
    let of_year = true_between 1 12 month civil.1.0 civil.1.1 in
    let of_month = true_between 1 (days_in_month (pos year) month) day civil.2.0 civil.2.1 in
    rw (of_year, of_month, counted) refl

-- ---- texts

-- ten bytes
ten : (text : List ℕ) → length text ≡ 10 →
    text ≡ get_or text 0 0 ∷ get_or text 1 0 ∷ get_or text 2 0 ∷ get_or text 3 0 ∷ get_or text 4 0 ∷ get_or text 5 0 ∷ get_or text 6 0 ∷ get_or text 7 0 ∷ get_or text 8 0 ∷ get_or text 9 0 ∷ []
ten text long =
    let d0 = drop-cons text 0 0 (omega arith) in
    let d1 = drop-cons text 1 0 (omega arith) in
    let d2 = drop-cons text 2 0 (omega arith) in
    let d3 = drop-cons text 3 0 (omega arith) in
    let d4 = drop-cons text 4 0 (omega arith) in
    let d5 = drop-cons text 5 0 (omega arith) in
    let d6 = drop-cons text 6 0 (omega arith) in
    let d7 = drop-cons text 7 0 (omega arith) in
    let d8 = drop-cons text 8 0 (omega arith) in
    let d9 = drop-cons text 9 0 (omega arith) in
    let d10 = drop_all 10 text (omega arith) in
    cc

-- the bytes of a date's text
spelled_as : (text : List ℕ) (year month day century rest : ℕ) → length text ≡ 10 → get_or text 4 0 ≡ 45 → get_or text 7 0 ≡ 45 →
    (get_or text 0 0 ≡ 48 + century / 10) × (get_or text 1 0 ≡ 48 + century % 10) →
    (get_or text 2 0 ≡ 48 + rest / 10) × (get_or text 3 0 ≡ 48 + rest % 10) →
    (get_or text 5 0 ≡ 48 + month / 10) × (get_or text 6 0 ≡ 48 + month % 10) →
    (get_or text 8 0 ≡ 48 + day / 10) × (get_or text 9 0 ≡ 48 + day % 10) →
    year / 100 ≡ century → year % 100 ≡ rest → text ≡ date_text year month day
spelled_as text year month day century rest long first second c r m d upper lower =
    ten text long ∙ rw (upper, lower, first, second, c.0, c.1, r.0, r.1, m.0, m.1, d.0, d.1) refl

abbrev with_day : List ℕ → ℕ → ℕ → Option ℕ
with_day text year month = number_read (slice_index text 8) (slice_index text 9) >>= λ day. day_number year month day

abbrev with_month : List ℕ → ℕ → Option ℕ
with_month text year = number_read (slice_index text 5) (slice_index text 6) >>= with_day text year

-- what is read as a day is named
reads : (text : List ℕ) (number : ℕ) → day_of text ≡ Some number → NamesDay text number
unfolding day_of
reads text number read =
    let test = if_found ((length text == 10) && (slice_index text 4 == 45) && (slice_index text 7 == 45)) (year_read text >>= with_month text) number read in
    let t1 = and_true ((length text == 10) && (slice_index text 4 == 45)) (slice_index text 7 == 45) test.0 in
    let t2 = and_true (length text == 10) (slice_index text 4 == 45) t1.0 in
    let long = eqb-true (length text) 10 t2.0 in
    let first = eqb-true (slice_index text 4) 45 t2.1 in
    let second = eqb-true (slice_index text 7) 45 t1.1 in
    let y = bind_found (year_read text) (with_month text) number test.1 in
    let c = bind_found (number_read (slice_index text 0) (slice_index text 1)) (λ century. number_read (slice_index text 2) (slice_index text 3) >>= λ year. Some (century * 100 + year)) y.0 y.1 in
    let r = bind_found (number_read (slice_index text 2) (slice_index text 3)) (λ year. Some (c.0 * 100 + year)) y.0 c.2 in
    let m = bind_found (number_read (slice_index text 5) (slice_index text 6)) (with_day text y.0) number y.2 in
    let d = bind_found (number_read (slice_index text 8) (slice_index text 9)) (λ day. day_number y.0 m.0 day) number m.2 in
    let cs = number_reads (slice_index text 0) (slice_index text 1) c.0 c.1 in
    let rs = number_reads (slice_index text 2) (slice_index text 3) r.0 r.1 in
    let ms = number_reads (slice_index text 5) (slice_index text 6) m.0 m.1 in
    let ds = number_reads (slice_index text 8) (slice_index text 9) d.0 d.1 in
    let year_is : c.0 * 100 + r.0 ≡ y.0 = cc (r.2) in
    let upper : y.0 / 100 ≡ c.0 = omega (arith, year_is, rs.2) in
    let lower : y.0 % 100 ≡ r.0 = omega (arith, year_is, rs.2) in
    let small : y.0 < 10000 = omega (arith, year_is, cs.2, rs.2) in
    let dated = day_numbered y.0 m.0 d.0 number small d.2 in
    record {
      year = y.0;
      month = m.0;
      day = d.0;
      in_calendar = dated.0;
      counted = dated.1;
      spelled = spelled_as text y.0 m.0 d.0 c.0 r.0 long first second (cs.0, cs.1) (rs.0, rs.1) (ms.0, ms.1) (ds.0, ds.1) upper lower;
    }

-- the ten bytes of a date are read
ten_read : (year month day number : ℕ) → year < 10000 → month < 100 → day < 100 → day_number year month day ≡ Some number →
    day_of (date_text year month day) ≡ Some number
unfolding day_of
ten_read year month day number in_years in_months in_days found =
    let century = number_named (year / 100) (omega arith) in
    let rest = number_named (year % 100) (omega arith) in
    let m = number_named month in_months in
    let d = number_named day in_days in
    let whole : year / 100 * 100 + year % 100 ≡ year = omega arith in
    rw (century, rest, m, d, whole, found) refl

-- no month has 100 days
short_month : (year : ℤ) (month day : ℕ) → day ≤ days_in_month year month → day < 100
short_month year month day most = grind (arith, nat_tests)

-- what names a day is read
named : (text : List ℕ) (number : ℕ) → NamesDay text number → day_of text ≡ Some number
named text number n =
    let last : n.year ≤ 9999 = omega (arith, signed_arith, n.in_calendar.0.1) in
    let month : n.month < 100 = omega (arith, n.in_calendar.1.1) in
    let day : n.day < 100 = short_month (pos n.year) n.month n.day n.in_calendar.2.1 in
    ap day_of n.spelled ∙ ten_read n.year n.month n.day number (omega arith) month day (numbered_day n.year n.month n.day number n.in_calendar n.counted)

-- a date is read exactly where the text names its day
pub day_is_read : (text : List ℕ) (r : Result ℕ DateEnd) →
    ((day : ℕ) → (r ≡ Ok day) ↔ NamesDay text day) → result_ok r ≡ day_of text
day_is_read text r read = same_reading (NamesDay text) r (day_of text) read (λ day. (reads text day, named text day))

-- what is read as a date, in the words of the reader
pub date_given : (d : Data) (text : List ℕ) (r : Result ℕ DateEnd) → text_in d ≡ Ok text →
    ((day : ℕ) → (r ≡ Ok day) ↔ NamesDay text day) → date_in d ≡ ok_or (result_ok r) code.BadDate
unfolding date_in
date_given d text r is read = rw (is, day_is_read text r read) refl
