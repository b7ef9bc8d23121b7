-- Who was ever exposed stays so, and who is exposed was at some time.
use Rattle.std.proofs.Common.{◌≡◌, ℕ, ◌==◌, ◌+◌, ◌*◌, nat_lt, ◌||◌, Bool, true, false, if◌then◌else◌, Option, Some, None, ap, sym, refl, true≢false}
use Rattle.arc_told.specs.Noted.{Standing, crashed, measured, not_up_again, shown_down, stands_after, told_to_stop, up_again}
use Rattle.arc_told.specs.Report.{Reported, length_of}
use Rattle.arc_told.specs.Report.Reported.{SlotsAre, Placed, Unavailable, FoundDown, FoundFull, Net, Delivered, MetDown, NoSuch, Stop, Crash, Up, JournalFull, DiskFailed, Accused, Lists}

-- one was ever exposed only if the other was
abbrev IsNoLess : Standing → Standing → Type 0
IsNoLess st later = later.ever ≡ false → st.ever ≡ false

no_less_if : (b : Bool) (st x y : Standing) → IsNoLess st x → IsNoLess st y → IsNoLess st (if b then x else y)
no_less_if true st x y former latter = former
no_less_if false st x y former latter = latter

pub either_false : (a b : Bool) → (a || b) ≡ false → a ≡ false
either_false true b is = is
either_false false b is = refl

measured_no_less : (told : Option ℕ) (st : Standing) → IsNoLess st (measured told st)
measured_no_less None st is = is
measured_no_less (Some n) st is = is

stop_no_less : (b : Bool) (st : Standing) → IsNoLess st (if b
    then record { down = st.down; exposed = true; armed = st.armed; ever = true }
    else record { down = st.down; exposed = st.exposed; armed = true; ever = st.ever })
stop_no_less true st is = absurd (true≢false is)
stop_no_less false st is = is

up_no_less : (b : Bool) (st : Standing) → IsNoLess st (if b
    then record { down = false; exposed = false; armed = false; ever = st.ever }
    else record { down = false; exposed = st.exposed || st.armed; armed = false; ever = st.ever || st.armed })
up_no_less true st is = is
up_no_less false st is = either_false st.ever st.armed is

not_up_no_less : (b : Bool) (st : Standing) → IsNoLess st (if b
    then record { down = true; exposed = st.exposed; armed = false; ever = st.ever }
    else record { down = true; exposed = st.exposed || st.armed; armed = false; ever = st.ever || st.armed })
not_up_no_less true st is = is
not_up_no_less false st is = either_false st.ever st.armed is

same_no_less : (st : Standing) → IsNoLess st st
same_no_less st is = is

-- who was never exposed after a step wasn't before it
pub ever_back : (entries j : ℕ) (st : Standing) (next : Reported) → IsNoLess st (stands_after entries j st next)
ever_back entries j st (FoundDown asked node) = no_less_if (node == j) st (shown_down st) st (same_no_less st) (same_no_less st)
ever_back entries j st (Stop node calls fill) =
    no_less_if (node == j) st (told_to_stop entries calls st) st (stop_no_less (nat_lt calls (4 * entries + 4)) st) (same_no_less st)
ever_back entries j st (Crash node) = no_less_if (node == j) st crashed st (λ is. absurd (true≢false is)) (same_no_less st)
ever_back entries j st (Up node inc) = no_less_if (node == j) st (up_again st) st (up_no_less st.down st) (same_no_less st)
ever_back entries j st (JournalFull node count) = no_less_if (node == j) st (not_up_again st) st (not_up_no_less st.down st) (same_no_less st)
ever_back entries j st (DiskFailed node) = no_less_if (node == j) st (not_up_again st) st (not_up_no_less st.down st) (same_no_less st)
ever_back entries j st (Accused node cause place) = no_less_if (node == j) st (not_up_again st) st (not_up_no_less st.down st) (same_no_less st)
ever_back entries j st (Lists lengths) = measured_no_less (length_of lengths j) st
ever_back entries j st (SlotsAre n) = same_no_less st
ever_back entries j st (Placed asked slot token reply) = same_no_less st
ever_back entries j st (Unavailable asked tallies) = same_no_less st
ever_back entries j st (FoundFull asked len) = same_no_less st
ever_back entries j st (Net node cycle fates) = same_no_less st
ever_back entries j st (Delivered k answer) = same_no_less st
ever_back entries j st (MetDown k) = same_no_less st
ever_back entries j st (NoSuch k held) = same_no_less st

-- who is exposed was so at some time
abbrev pub IsExposedEver : Standing → Type 0
IsExposedEver st = st.exposed ≡ true → st.ever ≡ true

exposed_if : (b : Bool) (x y : Standing) → IsExposedEver x → IsExposedEver y → IsExposedEver (if b then x else y)
exposed_if true x y former latter = former
exposed_if false x y former latter = latter

either_true : (a b c : Bool) → (a ≡ true → c ≡ true) → (a || b) ≡ true → (c || b) ≡ true
either_true true b c follows is = ap (λ x. x || b) (follows refl)
either_true false b true follows is = refl
either_true false b false follows is = is

measured_exposed : (told : Option ℕ) (st : Standing) → IsExposedEver st → IsExposedEver (measured told st)
measured_exposed None st had = had
measured_exposed (Some n) st had = had

stop_exposed : (b : Bool) (st : Standing) → IsExposedEver st → IsExposedEver (if b
    then record { down = st.down; exposed = true; armed = st.armed; ever = true }
    else record { down = st.down; exposed = st.exposed; armed = true; ever = st.ever })
stop_exposed true st had = λ is. refl
stop_exposed false st had = had

up_exposed : (b : Bool) (st : Standing) → IsExposedEver st → IsExposedEver (if b
    then record { down = false; exposed = false; armed = false; ever = st.ever }
    else record { down = false; exposed = st.exposed || st.armed; armed = false; ever = st.ever || st.armed })
up_exposed true st had = λ is. absurd (true≢false (sym is))
up_exposed false st had = either_true st.exposed st.armed st.ever had

not_up_exposed : (b : Bool) (st : Standing) → IsExposedEver st → IsExposedEver (if b
    then record { down = true; exposed = st.exposed; armed = false; ever = st.ever }
    else record { down = true; exposed = st.exposed || st.armed; armed = false; ever = st.ever || st.armed })
not_up_exposed true st had = had
not_up_exposed false st had = either_true st.exposed st.armed st.ever had

-- after each step too
pub exposed_ever : (entries j : ℕ) (st : Standing) (next : Reported) → IsExposedEver st →
    IsExposedEver (stands_after entries j st next)
exposed_ever entries j st (FoundDown asked node) had = exposed_if (node == j) (shown_down st) st had had
exposed_ever entries j st (Stop node calls fill) had =
    exposed_if (node == j) (told_to_stop entries calls st) st (stop_exposed (nat_lt calls (4 * entries + 4)) st had) had
exposed_ever entries j st (Crash node) had = exposed_if (node == j) crashed st (λ is. refl) had
exposed_ever entries j st (Up node inc) had = exposed_if (node == j) (up_again st) st (up_exposed st.down st had) had
exposed_ever entries j st (JournalFull node count) had = exposed_if (node == j) (not_up_again st) st (not_up_exposed st.down st had) had
exposed_ever entries j st (DiskFailed node) had = exposed_if (node == j) (not_up_again st) st (not_up_exposed st.down st had) had
exposed_ever entries j st (Accused node cause place) had = exposed_if (node == j) (not_up_again st) st (not_up_exposed st.down st had) had
exposed_ever entries j st (Lists lengths) had = measured_exposed (length_of lengths j) st had
exposed_ever entries j st (SlotsAre n) had = had
exposed_ever entries j st (Placed asked slot token reply) had = had
exposed_ever entries j st (Unavailable asked tallies) had = had
exposed_ever entries j st (FoundFull asked len) had = had
exposed_ever entries j st (Net node cycle fates) had = had
exposed_ever entries j st (Delivered k answer) had = had
exposed_ever entries j st (MetDown k) had = had
exposed_ever entries j st (NoSuch k held) had = had
