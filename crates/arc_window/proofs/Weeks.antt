-- What is read as a minute or a window of the week is what the text names.
use Rattle.std.proofs.Common.{◌≡◌, ◌≢◌, ◌↔◌, ℕ, zero, suc, ◌+◌, ◌-◌, ◌*◌, ◌/◌, ◌%◌, ◌<◌, ◌≤◌, ◌==◌, ◌&&◌, Bool, true, false, cond, not, List, [], ◌∷◌, ◌++◌, length, take, drop, get_or, Option, Some, None, Result, Ok, refl, sym, ap, ◌∙◌, arith, append_assoc, length-append, ltb}
use Rattle.std.specs.Prelude.{slice_get, slice_index, codes}
use Rattle.std.specs.Option.{ok_or}
use Rattle.std.specs.Str.{bytes_eq}
use Rattle.std.specs.Char.{is_ascii_digit}
use Rattle.arc_window.specs.Digits.{two_digits}
use Rattle.arc_window.specs.declared.weekly.Window.{Window}
use Rattle.arc_window.specs.Weekly.{day_names, NamesMinute, NamesWindow, day_read, number_read, minute_at, minute_read, window_between, window_read, ◌>>=◌}
use Rattle.std.proofs.Math.Seq.{drop-cons}
use Rattle.std.proofs.lemmas.List.{take-append-drop, drop_all}
use Rattle.std.proofs.lemmas.List.Quantifiers.{position-Some}
use Rattle.std.proofs.lemmas.Option.{slice_get-get_or}
use Rattle.std.proofs.lemmas.Slice.Eq.{bytes_eq-Decides}
use Rattle.std.proofs.lemmas.Bool.{eqb-true, eq-eqb, ltb-true, lt-ltb}
use Rattle.std.proofs.lemmas.Bool.Decides.{nat_tests}

-- ---- steps that may find nothing

-- what a chain found, each of its steps found
bind_found : {A B : Type 0} (o : Option A) (f : A → Option B) (y : B) → (o >>= f) ≡ Some y → (x : A) × (o ≡ Some x) × (f x ≡ Some y)
bind_found None f y found = absurd (cc)
bind_found (Some x) f y found = (x, refl, found)

-- and the other way
bind_at : {A B : Type 0} (o : Option A) (f : A → Option B) (x : A) (y : B) → o ≡ Some x → f x ≡ Some y → (o >>= f) ≡ Some y
bind_at o f x y first second = ap (λ p. p >>= f) first ∙ second

-- what is found under a test passed it
if_found : {A : Type 0} (b : Bool) (o : Option A) (y : A) → cond b o None ≡ Some y → (b ≡ true) × (o ≡ Some y)
if_found true o y found = (refl, found)
if_found false o y found = absurd (cc)

-- and the other way
if_at : {A : Type 0} (b : Bool) (o : Option A) → b ≡ true → cond b o None ≡ o
if_at b o holds = rw holds refl

and_true : (a b : Bool) → (a && b) ≡ true → (a ≡ true) × (b ≡ true)
and_true true b both = (refl, both)
and_true false b both = absurd (cc)

true_and : (a b : Bool) → a ≡ true → b ≡ true → (a && b) ≡ true
true_and a b first second = rw (first, second) refl

-- ---- days and digits

-- a name that is read is that of its day
day_reads : (name : List ℕ) (day : ℕ) → day_read name ≡ Some day → slice_get day_names day ≡ Some name
day_reads name day read =
    let first = position-Some (λ d. bytes_eq d name) day_names day [] read in
    let own = (bytes_eq-Decides (get_or day_names day []) name).0 first.1 in
    slice_get-get_or day_names day [] first.0 ∙ ap Some own

-- each day's name has three bytes and is read
day_named : (name : List ℕ) (day : ℕ) → slice_get day_names day ≡ Some name → (day_read name ≡ Some day) × (length name ≡ 3)
day_named name zero named = let e : codes "Mon" ≡ name = cc in rw (← e) (refl, refl)
day_named name (suc zero) named = let e : codes "Tue" ≡ name = cc in rw (← e) (refl, refl)
day_named name (suc (suc zero)) named = let e : codes "Wed" ≡ name = cc in rw (← e) (refl, refl)
day_named name (suc (suc (suc zero))) named = let e : codes "Thu" ≡ name = cc in rw (← e) (refl, refl)
day_named name (suc (suc (suc (suc zero)))) named = let e : codes "Fri" ≡ name = cc in rw (← e) (refl, refl)
day_named name (suc (suc (suc (suc (suc zero))))) named = let e : codes "Sat" ≡ name = cc in rw (← e) (refl, refl)
day_named name (suc (suc (suc (suc (suc (suc zero)))))) named = let e : codes "Sun" ≡ name = cc in rw (← e) (refl, refl)
day_named name (suc (suc (suc (suc (suc (suc (suc day))))))) named = absurd (cc)

-- a digit's byte
digit_is : (c : ℕ) → is_ascii_digit c ≡ true → (48 ≤ c) × (c ≤ 57)
digit_is c test = grind (arith, nat_tests)

is_digit : (n : ℕ) → n < 10 → is_ascii_digit (48 + n) ≡ true
is_digit n small = grind (arith, nat_tests)

-- two bytes that are read are the number's digits
number_reads : (tens ones n : ℕ) → number_read tens ones ≡ Some n → (tens ≡ 48 + n / 10) × (ones ≡ 48 + n % 10)
number_reads tens ones n read =
    let found = if_found (is_ascii_digit tens && is_ascii_digit ones) (Some ((tens - 48) * 10 + (ones - 48))) n read in
    let both = and_true (is_ascii_digit tens) (is_ascii_digit ones) found.0 in
    let t = digit_is tens both.0 in
    let o = digit_is ones both.1 in
    let value : (tens - 48) * 10 + (ones - 48) ≡ n = cc (found.1) in
    (omega arith, omega arith)

-- and each number's digits are read
number_named : (n : ℕ) → n < 100 → number_read (48 + n / 10) (48 + n % 10) ≡ Some n
number_named n small =
    let tests = true_and (is_ascii_digit (48 + n / 10)) (is_ascii_digit (48 + n % 10)) (is_digit (n / 10) (omega arith)) (is_digit (n % 10) (omega arith)) in
    let value : (48 + n / 10 - 48) * 10 + (48 + n % 10 - 48) ≡ n = omega arith in
    if_at _ _ tests ∙ ap Some value

-- ---- minutes

-- nine bytes
nine : (text : List ℕ) → length text ≡ 9 →
    text ≡ take 3 text ++ get_or text 3 0 ∷ get_or text 4 0 ∷ get_or text 5 0 ∷ get_or text 6 0 ∷ get_or text 7 0 ∷ get_or text 8 0 ∷ []
nine text long =
    let d3 = drop-cons text 3 0 (omega arith) in
    let d4 = drop-cons text 4 0 (omega arith) in
    let d5 = drop-cons text 5 0 (omega arith) in
    let d6 = drop-cons text 6 0 (omega arith) in
    let d7 = drop-cons text 7 0 (omega arith) in
    let d8 = drop-cons text 8 0 (omega arith) in
    let d9 = drop_all 9 text (omega arith) in
    let whole = take-append-drop 3 text in
    cc

-- what follows the day and the hour
abbrev after_hour : List ℕ → ℕ → ℕ → Option ℕ
after_hour text day hour = number_read (slice_index text 7) (slice_index text 8) >>= minute_at day hour

abbrev after_day : List ℕ → ℕ → Option ℕ
after_day text day = number_read (slice_index text 4) (slice_index text 5) >>= after_hour text day

-- what the clock shows
clock_is : (day hour minute number : ℕ) → minute_at day hour minute ≡ Some number →
    (hour < 24) × (minute < 60) × (number ≡ day * 1_440 + hour * 60 + minute)
clock_is day hour minute number read =
    let found = if_found (ltb hour 24 && ltb minute 60) (Some (day * 1_440 + hour * 60 + minute)) number read in
    let both = and_true (ltb hour 24) (ltb minute 60) found.0 in
    let value : day * 1_440 + hour * 60 + minute ≡ number = cc (found.1) in
    (ltb-true hour 24 both.0, ltb-true minute 60 both.1, sym value)

clock_at : (day hour minute : ℕ) → hour < 24 → minute < 60 → minute_at day hour minute ≡ Some (day * 1_440 + hour * 60 + minute)
clock_at day hour minute in_day in_hour = if_at _ _ (true_and _ _ (lt-ltb hour 24 in_day) (lt-ltb minute 60 in_hour))

-- the bytes of a minute's text
spelled_as : (text : List ℕ) (hour minute : ℕ) → length text ≡ 9 → get_or text 3 0 ≡ 58 → get_or text 6 0 ≡ 58 →
    (get_or text 4 0 ≡ 48 + hour / 10) × (get_or text 5 0 ≡ 48 + hour % 10) →
    (get_or text 7 0 ≡ 48 + minute / 10) × (get_or text 8 0 ≡ 48 + minute % 10) →
    text ≡ take 3 text ++ codes ":" ++ two_digits hour ++ codes ":" ++ two_digits minute
spelled_as text hour minute long first second h m = nine text long ∙ rw (first, second, h.0, h.1, m.0, m.1) (simp append_assoc refl)

-- a minute that is read is the one named
minute_reads : (text : List ℕ) (number : ℕ) → minute_read text ≡ Some number → NamesMinute text number
unfolding minute_read
minute_reads text number read =
    let whole = if_found ((length text == 9) && (slice_index text 3 == 58) && (slice_index text 6 == 58)) (day_read (take 3 text) >>= after_day text) number read in
    let shape = and_true ((length text == 9) && (slice_index text 3 == 58)) (slice_index text 6 == 58) whole.0 in
    let first = and_true (length text == 9) (slice_index text 3 == 58) shape.0 in
    let day = bind_found (day_read (take 3 text)) (after_day text) number whole.1 in
    let hour = bind_found (number_read (slice_index text 4) (slice_index text 5)) (after_hour text day.0) number day.2 in
    let minute = bind_found (number_read (slice_index text 7) (slice_index text 8)) (minute_at day.0 hour.0) number hour.2 in
    let clock = clock_is day.0 hour.0 minute.0 number minute.2 in
    record {
      day = day.0;
      name = take 3 text;
      hour = hour.0;
      minute = minute.0;
      of_day = day_reads (take 3 text) day.0 day.1;
      in_day = clock.0;
      in_hour = clock.1;
      counted = clock.2;
      spelled = spelled_as text hour.0 minute.0 (eqb-true _ _ first.0) (eqb-true _ _ first.1) (eqb-true _ _ shape.1)
          (number_reads _ _ hour.0 hour.1) (number_reads _ _ minute.0 minute.1);
    }

-- the text of a minute is read, whatever three bytes its day's name has
minute_named_at : (name : List ℕ) (day hour minute : ℕ) → length name ≡ 3 → day_read name ≡ Some day → hour < 24 → minute < 60 →
    minute_read (name ++ codes ":" ++ two_digits hour ++ codes ":" ++ two_digits minute) ≡ Some (day * 1_440 + hour * 60 + minute)
unfolding minute_read
minute_named_at (a ∷ b ∷ c ∷ []) day hour minute long named in_day in_hour =
    let text = (a ∷ b ∷ c ∷ []) ++ codes ":" ++ two_digits hour ++ codes ":" ++ two_digits minute in
    bind_at (day_read (take 3 text)) (after_day text) day _ named
    (bind_at _ (after_hour text day) hour _ (number_named hour (omega arith))
    (bind_at _ (minute_at day hour) minute _ (number_named minute (omega arith)) (clock_at day hour minute in_day in_hour)))
minute_named_at _ day hour minute long named in_day in_hour = absurd (omega arith)

-- each minute's text is read, and has nine bytes
minute_named : (text : List ℕ) (number : ℕ) → NamesMinute text number → (minute_read text ≡ Some number) × (length text ≡ 9)
minute_named text number named =
    let day = day_named named.name named.day named.of_day in
    let long = simp length-append at (ap length named.spelled) in (
      ap minute_read named.spelled ∙ minute_named_at named.name named.day named.hour named.minute day.1 day.0 named.in_day named.in_hour
          ∙ ap Some (sym named.counted),
      omega (arith, long, day.1),
    )

-- ---- windows

-- the parts of a list round one item
parts_round : (a : List ℕ) (x : ℕ) (b : List ℕ) (n : ℕ) → length a ≡ n →
    (get_or (a ++ x ∷ b) n 0 ≡ x) × (take n (a ++ x ∷ b) ≡ a) × (drop (suc n) (a ++ x ∷ b) ≡ b)
parts_round [] x b zero long = (refl, refl, refl)
parts_round [] x b (suc n) long = absurd (omega arith)
parts_round (c ∷ a) x b zero long = absurd (omega arith)
parts_round (c ∷ a) x b (suc n) long =
    let rest = parts_round a x b n (omega arith) in
    (rest.0, ap (λ l. c ∷ l) rest.1, rest.2)

-- what follows the first minute
abbrev after_from : List ℕ → ℕ → Option Window
after_from text from = minute_read (drop 10 text) >>= window_between from

-- a window lies between two different minutes
between_is : (from to : ℕ) (window : Window) → window_between from to ≡ Some window →
    (window.from ≡ from) × (window.to ≡ to) × (from ≢ to)
between_is from to window read =
    let found = if_found (not (from == to)) (Some (record { from = from; to = to })) window read in
    let same : record { from = from; to = to } ≡ window = cc (found.1) in
    let apart : from ≢ to = λ e. (let t = eq-eqb from to e in let f = found.0 in absurd (cc)) in
    (sym (ap (λ (w : Window). w.from) same), sym (ap (λ (w : Window). w.to) same), apart)

between_at : (window : Window) → window.from ≢ window.to → window_between window.from window.to ≡ Some window
between_at window apart =
    let test : (window.from == window.to) ≡ false = grind (arith, nat_tests) in
    if_at _ _ (ap not test)

-- a window is read exactly where the text names it
pub window_exact : (text : List ℕ) (window : Window) → (window_read text ≡ Some window) ↔ NamesWindow text window
unfolding window_read
window_exact text window = (reads, named)
  where
    reads : window_read text ≡ Some window → NamesWindow text window
    reads read =
        let whole = if_found ((length text == 19) && (slice_index text 9 == 45)) (minute_read (take 9 text) >>= after_from text) window read in
        let shape = and_true (length text == 19) (slice_index text 9 == 45) whole.0 in
        let from = bind_found (minute_read (take 9 text)) (after_from text) window whole.1 in
        let to = bind_found (minute_read (drop 10 text)) (window_between from.0) window from.2 in
        let between = between_is from.0 to.0 window to.2 in
        let long = eqb-true _ _ shape.0 in
        let dash = eqb-true _ _ shape.1 in
        record {
          from = take 9 text;
          to = drop 10 text;
          begins = minute_reads (take 9 text) window.from (from.1 ∙ ap Some (sym between.0));
          ends = minute_reads (drop 10 text) window.to (to.1 ∙ ap Some (sym between.1));
          differ = λ e. between.2 (sym between.0 ∙ e ∙ between.1);
          spelled = sym (take-append-drop 9 text) ∙ ap (λ l. take 9 text ++ l) (drop-cons text 9 0 (omega arith) ∙ ap (λ x. x ∷ drop 10 text) dash)
              ∙ sym (append_assoc (take 9 text) (45 ∷ []) (drop 10 text));
        }

    named : NamesWindow text window → window_read text ≡ Some window
    named w =
        let from = minute_named w.from window.from w.begins in
        let to = minute_named w.to window.to w.ends in
        let whole = w.spelled ∙ append_assoc w.from (45 ∷ []) w.to in
        let long = simp length-append at (ap length whole) in
        let parts = parts_round w.from 45 w.to 9 from.1 in
        let dash = ap (λ t. get_or t 9 0) whole ∙ parts.0 in
        let front = ap (λ t. take 9 t) whole ∙ parts.1 in
        let back = ap (λ t. drop 10 t) whole ∙ parts.2 in
        if_at _ _ (true_and _ _ (eq-eqb (length text) 19 (omega (arith, from.1, to.1))) (eq-eqb _ _ dash))
        ∙ bind_at (minute_read (take 9 text)) (after_from text) window.from window (ap minute_read front ∙ from.0)
        (bind_at (minute_read (drop 10 text)) (window_between window.from) window.to window (ap minute_read back ∙ to.0) (between_at window w.differ))

-- a result that says no more than the option does
pub ok_or_exact : {A E : Type 0} (o : Option A) (e : E) (r : Result A E) (x : A) → r ≡ ok_or o e →
    (r ≡ Ok x → o ≡ Some x) × (o ≡ Some x → r ≡ Ok x)
ok_or_exact None e r x is = (λ ok. absurd (cc), λ some. absurd (cc))
ok_or_exact (Some y) e r x is = (λ ok. cc, λ some. cc)
