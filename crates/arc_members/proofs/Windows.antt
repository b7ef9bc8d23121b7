-- What is read as a window of the week is the window that the text names.
use Rattle.std.proofs.Common.{◌≡◌, ◌↔◌, ℕ, ◌+◌, ◌*◌, ◌<◌, List, length, Option, Some, None, Result, Ok, Err, refl, sym, arith}
use Rattle.std.specs.Prelude.{slice_get}
use Rattle.std.specs.Result.{result_ok}
use Rattle.std.proofs.lemmas.Option.{slice_get_within}
use Rattle.arc_window.specs.declared.weekly.Window.{Window}
use Rattle.arc_window.specs.declared.weekly.BadWindow.{BadWindow}
use Rattle.arc_window.specs.Weekly.{NamesMinute, NamesWindow, day_names, window_read}
use Rattle.arc_window.proofs.Weeks.{window_exact}
use Rattle.serde_json.specs.Data.{Data}
use Rattle.std.specs.Option.{ok_or}
use Rattle.arc_members.specs.declared.code.Code.TheVariants as code
use Rattle.arc_members.specs.Reading.{text_in}
use Rattle.arc_members.specs.Values.{window_in}
use Rattle.arc_data.specs.Valid.{IsWindow}

-- what is found nowhere isn't there
nothing : {A : Type 0} (o : Option A) → ((x : A) → o ≡ Some x → ⊥) → None ≡ o
nothing None never = refl
nothing (Some x) never = absurd (never x refl)

-- two that name the same are the same
pub same_reading : {A E : Type 0} (Names : A → Type 0) (r : Result A E) (o : Option A) →
    ((x : A) → (r ≡ Ok x) ↔ Names x) → ((x : A) → (o ≡ Some x) ↔ Names x) → result_ok r ≡ o
same_reading Names (Ok x) o read found = sym ((found x).1 ((read x).0 refl))
same_reading Names (Err e) o read found = nothing o (λ x is. let ok : Err e ≡ Ok x = (read x).1 ((found x).0 is) in absurd cc)

pub window_is_read : (text : List ℕ) (r : Result Window BadWindow) →
    ((window : Window) → (r ≡ Ok window) ↔ NamesWindow text window) → result_ok r ≡ window_read text
window_is_read text r read = same_reading (NamesWindow text) r (window_read text) read (window_exact text)

-- a minute that is named is one of the week
named_minute : (text : List ℕ) (n : ℕ) → NamesMinute text n → n < 10080
named_minute text n named = by_day named.day named.of_day named.counted
  where
    by_day : (day : ℕ) → slice_get day_names day ≡ Some named.name → n ≡ day * 1440 + named.hour * 60 + named.minute → n < 10080
    by_day day is counted = let early : day < length day_names = slice_get_within day_names day named.name is in omega (arith, named.in_day, named.in_hour)

-- a window that is named is one
pub named_window : (text : List ℕ) (window : Window) → NamesWindow text window → IsWindow window
named_window text window named =
    (named_minute named.from window.from named.begins, named_minute named.to window.to named.ends, named.differ)

-- what is read as a window, in the words of the reader
pub window_given : (d : Data) (text : List ℕ) (r : Result Window BadWindow) → text_in d ≡ Ok text →
    ((window : Window) → (r ≡ Ok window) ↔ NamesWindow text window) → window_in d ≡ ok_or (result_ok r) code.BadWindow
unfolding window_in
window_given d text r is read = rw (is, window_is_read text r read) refl
