-- The fields of several kinds.
use Rattle.std.proofs.Common.{◌≡◌, ◌≢◌, ℕ, zero, suc, ◌+◌, ◌^◌, ◌<◌, ◌≤◌, ◌==◌, ◌&&◌, Bool, true, false, cond, not, nat_le, nat_lt, List, [], ◌∷◌, ◌++◌, length, drop, AllPairs, Option, Some, None, Result, Ok, refl, sym, ap, subst, ◌∙◌, append_assoc, arith, lit<, inl, inr}
use Rattle.std.specs.Prelude.{IfSome}
use Rattle.std.specs.Int.{w16, w32, w64}
use Rattle.std.specs.Str.{IsUtf8, bytes_eq}
use Rattle.std.specs.Bool.{Decides}
use Rattle.std.proofs.lemmas.Bool.{leb-true, le-leb, ltb-true, lt-ltb, eqb-true, and_from}
use Rattle.std.proofs.lemmas.Bool.Decides.{Decides-eqb}
use Rattle.std.proofs.lemmas.Slice.Eq.{bytes_eq-Decides}
use Rattle.arc_bytes.specs.Numbers.{number_bytes}
use Rattle.arc_ids.specs.declared.named_id.ControlId.{ControlId}
use Rattle.arc_ids.specs.declared.named_id.PanelId.{PanelId}
use Rattle.arc_ids.specs.declared.named_id.ResourceId.{ResourceId}
use Rattle.arc_ids.specs.declared.named_id.RuleId.{RuleId}
use Rattle.arc_ids.specs.declared.named_id.ShiftId.{ShiftId}
use Rattle.arc_window.specs.declared.weekly.Window.{Window}
use Rattle.arc_data.specs.declared.batch.Entry.{Entry}
use Rattle.arc_data.specs.declared.shift.Status.{Status}
use Rattle.arc_data.specs.declared.shift.Status.TheVariants.{Active, Expired, Canceled}
use Rattle.arc_data.specs.Valid.{IsName, IsComment, IsWait, AreMinutes, IsDay, IsWindow}
use Rattle.arc_command.specs.Reader.{Reader, ◌>>=◌, pair, depends, mapped, within, byte_at, uint_at, switch_at, option_at, any, is_new}
use Rattle.arc_command.specs.Reading.{panel_at, control_at, rule_at, resource_at, shift_at, name_at, comment_at, zone_at, wait_at, minutes_at, day_at, minute_at, window_at, status_of, status_at, new_control_at, new_zone_at, entry_at}
use Rattle.arc_command.specs.Spelling.{text_bytes, switch_bytes, panel_bytes, control_bytes, rule_bytes, resource_bytes, shift_bytes, long_bytes, option_bytes, window_bytes, status_bytes, entry_bytes}
use Rattle.arc_command.specs.Typed.{IsTypedPanel, IsTypedControl, IsTypedRule, IsTypedResource, IsTypedShift, IsTypedEntry, IsTypedZone}
use Rattle.arc_command.proofs.FieldLaws.{IsBytes, bind_ok, ok_is, Taken, Again, Stands, Stands-then, IsField, behind_text, depends_field, pair_field, mapped_taken, mapped_again, mapped_field, refit, within_field}
use Rattle.arc_command.proofs.NumberLaws.{uint_field, wide16, wide32, wide64}
use Rattle.arc_command.proofs.ListLaws.{byte_field, text_field, both_tests, IsTextOf}
use Rattle.arc_command.proofs.Doubles.{AndNew, not-Decides}

abbrev done : {A : Type 0} → A → Result A ℕ
done x = Ok x

abbrev single : ℕ → List ℕ
single b = b ∷ []

-- ---- numbers and identifiers

pub uint16 : IsField (uint_at w16) (number_bytes w16) (λ (n : ℕ). n < 2 ^ 16)
uint16 = uint_field w16 (2 ^ 16) wide16

pub uint32 : IsField (uint_at w32) (number_bytes w32) (λ (n : ℕ). n < 2 ^ 32)
uint32 = uint_field w32 (2 ^ 32) wide32

pub uint64 : IsField (uint_at w64) (number_bytes w64) (λ (n : ℕ). n < 2 ^ 64)
uint64 = uint_field w64 (2 ^ 64) wide64

pub panel_field : IsField panel_at panel_bytes IsTypedPanel
unfolding panel_at
panel_field = mapped_field (λ (n : ℕ). record { 0 = n }) (λ (p : PanelId). p.0) panel_bytes IsTypedPanel uint64
    (λ x f. refl) (λ x f. f) (λ y is. (refl, is))

pub control_field : IsField control_at control_bytes IsTypedControl
unfolding control_at
control_field = mapped_field (λ (n : ℕ). record { 0 = n }) (λ (p : ControlId). p.0) control_bytes IsTypedControl uint64
    (λ x f. refl) (λ x f. f) (λ y is. (refl, is))

pub rule_field : IsField rule_at rule_bytes IsTypedRule
unfolding rule_at
rule_field = mapped_field (λ (n : ℕ). record { 0 = n }) (λ (p : RuleId). p.0) rule_bytes IsTypedRule uint64
    (λ x f. refl) (λ x f. f) (λ y is. (refl, is))

pub resource_field : IsField resource_at resource_bytes IsTypedResource
unfolding resource_at
resource_field = mapped_field (λ (n : ℕ). record { 0 = n }) (λ (p : ResourceId). p.0) resource_bytes IsTypedResource uint64
    (λ x f. refl) (λ x f. f) (λ y is. (refl, is))

pub shift_field : IsField shift_at shift_bytes IsTypedShift
unfolding shift_at
shift_field = mapped_field (λ (n : ℕ). record { 0 = n }) (λ (p : ShiftId). p.0) shift_bytes IsTypedShift uint64
    (λ x f. refl) (λ x f. f) (λ y is. (refl, is))

-- ---- switches, and what may be given

-- a switch as a number
abbrev bit : Bool → ℕ
bit true = 1
bit false = 0

abbrev IsBit : ℕ → Type 0
IsBit b = (b < 256) × (nat_le b 1 ≡ true)

abbrev pub Whatever : {A : Type 0} → A → Type 0
Whatever x = Unit {0}

switch_texts : (b : ℕ) → IsBit b → switch_bytes (b == 1) ≡ b ∷ []
switch_texts zero f = refl
switch_texts (suc zero) f = refl
switch_texts (suc (suc b)) f = let le = leb-true _ _ f.1 in absurd (omega arith)

switch_back : (on : Bool) → Unit {0} → ((bit on == 1) ≡ on) × IsBit (bit on)
switch_back true u = (refl, (lit< tt, refl))
switch_back false u = (refl, (lit< tt, refl))

pub switch_field : IsField switch_at switch_bytes (λ (on : Bool). Whatever on)
unfolding switch_at
switch_field = mapped_field (λ (b : ℕ). b == 1) bit switch_bytes (λ (on : Bool). Whatever on)
    (within_field (λ (b : ℕ). nat_le b 1) byte_field) switch_texts (λ x f. tt) switch_back

module _ {A : Type 0} {value : Reader A} {t : A → List ℕ} {F : A → Type 0} (field : IsField value t F) where
  -- what stands behind a switch
  given_taken : (on : Bool) (bytes : List ℕ) (at place : ℕ) (o : Option A) (after : ℕ) → IsBytes bytes →
      Stands bytes at (switch_bytes on) place → cond on (mapped Some value bytes place) (Ok (None, place)) ≡ done (o, after) →
      Stands bytes at (option_bytes t o) after × IfSome o F
  unfolding option_bytes
  given_taken true bytes at place o after are s e =
      let a = bind_ok (value bytes place) (λ (x : A × ℕ). Ok (Some x.0, x.1)) (o, after) e in
      let z = field.taken bytes place a.0.0 a.0.1 are a.1 in
      let both = Stands-then bytes at (switch_bytes true) place (t a.0.0) a.0.1 s z.0 in
      let made : Option A × ℕ = (Some a.0.0, a.0.1) in
      subst (λ (y : Option A × ℕ). Stands bytes at (option_bytes t y.0) y.1 × IfSome y.0 F) (ok_is made (o, after) a.2) (both, z.1)
  given_taken false bytes at place o after are s e =
      let made : Option A × ℕ = (None, place) in
      subst (λ (y : Option A × ℕ). Stands bytes at (option_bytes t y.0) y.1 × IfSome y.0 F) (ok_is made (o, after) e) (s, tt)

  option_taken : Taken (option_at value) (option_bytes t) (λ (o : Option A). IfSome o F)
  unfolding option_at
  option_taken bytes at o after are e =
      let a = bind_ok (switch_at bytes at) (λ (x : Bool × ℕ). cond x.0 (mapped Some value bytes x.1) (Ok (None, x.1))) (o, after) e in
      let s = switch_field.taken bytes at a.0.0 a.0.1 are a.1 in
      given_taken a.0.0 bytes at a.0.1 o after are s.0 a.2

  option_again : Again (option_at value) (option_bytes t) (λ (o : Option A). IfSome o F)
  unfolding option_at option_bytes
  option_again bytes at None rest fits e = rw (switch_field.again bytes at false rest tt e) refl
  option_again bytes at (Some x) rest fits e =
      let split : drop at bytes ≡ switch_bytes true ++ (t x ++ rest) = e in
      let one = switch_field.again bytes at true (t x ++ rest) tt split in
      let two = mapped_again Some value t F field.again bytes (at + 1) x rest fits (behind_text bytes at (switch_bytes true) (t x ++ rest) split) in
      rw (one, two) (ap (λ (n : ℕ). done (Some x, n)) (omega arith))

  pub option_field : IsField (option_at value) (option_bytes t) (λ (o : Option A). IfSome o F)
  option_field = record { taken = option_taken; again = option_again }

-- what is given fits in two ways
pub given_both : {A : Type 0} (F G H : A → Type 0) → ((x : A) → F x → G x → H x) → (o : Option A) → IfSome o F → IfSome o G → IfSome o H
given_both F G H f None a b = tt
given_both F G H f (Some x) a b = f x a b

pub given_to : {A : Type 0} (F G : A → Type 0) → ((x : A) → F x → G x) → (o : Option A) → IfSome o F → IfSome o G
given_to F G f None a = tt
given_to F G f (Some x) a = f x a

-- ---- numbers within limits

pub wait_field : IsField wait_at long_bytes IsWait
unfolding wait_at
wait_field = refit IsWait (within_field (λ (ms : ℕ). nat_le ms 604800000) uint32)
    (λ ms f. leb-true _ _ f.1) (λ ms is. (omega (arith, is), le-leb _ _ is))

pub minutes_field : IsField minutes_at long_bytes AreMinutes
unfolding minutes_at
minutes_field = refit AreMinutes (within_field (λ (minutes : ℕ). nat_le 1 minutes && nat_le minutes 4320) uint32)
    (λ minutes f. let two = both_tests (nat_le 1 minutes) (nat_le minutes 4320) f.1 in (leb-true _ _ two.0, leb-true _ _ two.1))
    (λ minutes is. (omega (arith, is.1), and_from _ _ (le-leb _ _ is.0) (le-leb _ _ is.1)))

pub day_field : IsField day_at long_bytes IsDay
unfolding day_at
day_field = refit IsDay (within_field (λ (day : ℕ). nat_le day 2932896) uint32)
    (λ day f. leb-true _ _ f.1) (λ day is. (omega (arith, is), le-leb _ _ is))

-- ---- windows

abbrev IsMinute : ℕ → Type 0
IsMinute minute = minute < 10080

abbrev IsOther : ℕ → ℕ → Type 0
IsOther from to = (to < 10080) × (from ≢ to)

minute_field : IsField minute_at (number_bytes w16) IsMinute
minute_field = refit IsMinute (within_field (λ (minute : ℕ). nat_lt minute 10080) uint16)
    (λ minute f. ltb-true _ _ f.1) (λ minute is. (omega (arith, is), lt-ltb _ _ is))

differ : (from to : ℕ) → Decides (not (to == from)) (to ≢ from)
differ from to = not-Decides (to == from) (to ≡ from) (Decides-eqb to from)

other_field : (from : ℕ) → IsField (within (λ (to : ℕ). nat_lt to 10080 && not (to == from)) (uint_at w16)) (number_bytes w16) (IsOther from)
other_field from = refit (IsOther from) (within_field (λ (to : ℕ). nat_lt to 10080 && not (to == from)) uint16)
    (λ to f. let two = both_tests (nat_lt to 10080) (not (to == from)) f.1 in (ltb-true _ _ two.0, λ same. (differ from to).0 two.1 (sym same)))
    (λ to is. (omega (arith, is.0), and_from _ _ (lt-ltb _ _ is.0) ((differ from to).1 (λ same. is.1 (sym same)))))

pub window_field : IsField window_at window_bytes IsWindow
unfolding window_at
window_field = mapped_field (λ (x : ℕ × ℕ). record { from = x.0; to = x.1 }) (λ (w : Window). (w.from, w.to)) window_bytes IsWindow
    (depends_field minute_field (λ from f. other_field from))
    (λ x f. refl) (λ x f. (f.0, f.1.0, f.1.1)) (λ y is. (refl, (is.0, (is.1, is.2))))

-- ---- the status of a shift

abbrev status_number : Status → ℕ
status_number Active = 1
status_number Expired = 2
status_number Canceled = 3

abbrev IsStatusNumber : ℕ → Type 0
IsStatusNumber b = (b < 256) × ((nat_le 1 b && nat_le b 3) ≡ true)

status_texts : (b : ℕ) → IsStatusNumber b → status_bytes (status_of b) ≡ b ∷ []
status_texts zero f = absurd (let no = f.1 in cc)
status_texts (suc zero) f = refl
status_texts (suc (suc zero)) f = refl
status_texts (suc (suc (suc zero))) f = refl
status_texts (suc (suc (suc (suc b)))) f = let two = both_tests (nat_le 1 (suc (suc (suc (suc b))))) (nat_le (suc (suc (suc (suc b)))) 3) f.1 in let le = leb-true _ _ two.1 in absurd (omega arith)

status_back : (status : Status) → Unit {0} → (status_of (status_number status) ≡ status) × IsStatusNumber (status_number status)
status_back Active u = (refl, (lit< tt, refl))
status_back Expired u = (refl, (lit< tt, refl))
status_back Canceled u = (refl, (lit< tt, refl))

pub status_field : IsField status_at status_bytes (λ (status : Status). Whatever status)
unfolding status_at
status_field = mapped_field status_of status_number status_bytes (λ (status : Status). Whatever status)
    (within_field (λ (b : ℕ). nat_le 1 b && nat_le b 3) byte_field) status_texts (λ x f. tt) status_back

-- ---- texts

pub name_field : IsField name_at text_bytes (IsTextOf 1 64)
name_field = text_field 1 64 (lit< tt)

pub comment_field : IsField comment_at text_bytes (λ (comment : List ℕ). IsComment comment × IsUtf8 comment)
comment_field = refit (λ (comment : List ℕ). IsComment comment × IsUtf8 comment) (text_field 0 128 (lit< tt)) (λ x f. (f.1, f.2)) (λ x f. (omega arith, f.0, f.1))

pub zone_field : IsField zone_at text_bytes IsTypedZone
zone_field = refit IsTypedZone (text_field 1 32 (lit< tt))
    (λ x f. record { some = f.0; short = f.1; text = f.2 }) (λ x f. (f.some, f.short, f.text))

-- ---- items of lists that hold nothing twice

abbrev pub same_control : ControlId → ControlId → Bool
same_control other control = other.0 == control.0

abbrev pub changes_control : Entry → ControlId → Bool
changes_control other control = other.control.0 == control.0

abbrev pub IsNewControl : List ControlId → ControlId → Type 0
IsNewControl = AndNew same_control (λ (control : ControlId). control) IsTypedControl

abbrev pub IsNewZone : List (List ℕ) → List ℕ → Type 0
IsNewZone = AndNew bytes_eq (λ (zone : List ℕ). zone) IsTypedZone

abbrev pub IsNewEntry : List Entry → Entry → Type 0
IsNewEntry = AndNew changes_control (λ (entry : Entry). entry.control) IsTypedEntry

same_control-Decides : (a b : ControlId) → Decides (same_control a b) (a ≡ b)
same_control-Decides a b =
    let one : ControlId → ℕ = λ c. c.0 in
    (λ e. ap (λ (n : ℕ). let made : ControlId = record { 0 = n } in made) ((Decides-eqb a.0 b.0).0 e), λ same. (Decides-eqb a.0 b.0).1 (ap one same))

pub controls_apart : (a b : ControlId) → Decides (not (same_control a b)) (a ≢ b)
controls_apart a b = not-Decides (same_control a b) (a ≡ b) (same_control-Decides a b)

pub zones_apart : (a b : List ℕ) → Decides (not (bytes_eq a b)) (a ≢ b)
zones_apart a b = not-Decides (bytes_eq a b) (a ≡ b) (bytes_eq-Decides a b)

pub entries_apart : (a b : Entry) → Decides (not (changes_control a b.control)) (a.control ≢ b.control)
entries_apart a b = controls_apart a.control b.control

pub new_control_field : (earlier : List ControlId) → IsField (new_control_at earlier) control_bytes (IsNewControl earlier)
unfolding new_control_at
new_control_field earlier = within_field (is_new same_control earlier) control_field

pub new_zone_field : (earlier : List (List ℕ)) → IsField (new_zone_at earlier) text_bytes (IsNewZone earlier)
unfolding new_zone_at
new_zone_field earlier = within_field (is_new bytes_eq earlier) zone_field

pub entry_field : (earlier : List Entry) → IsField (entry_at earlier) entry_bytes (IsNewEntry earlier)
unfolding entry_at
entry_field earlier = mapped_field (λ (x : ControlId × Bool). record { control = x.0; on = x.1 }) (λ (e : Entry). (e.control, e.on)) entry_bytes (IsNewEntry earlier)
    (pair_field (within_field (is_new changes_control earlier) control_field) switch_field)
    (λ x f. refl) (λ x f. f.0) (λ y is. (refl, (is, tt)))
