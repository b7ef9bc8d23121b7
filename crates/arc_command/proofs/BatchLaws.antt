-- The lists and batches as fields.
use Rattle.std.proofs.Common.{◌≡◌, ◌≢◌, ℕ, ◌+◌, ◌^◌, ◌<◌, ◌≤◌, Bool, List, [], ◌∷◌, ◌++◌, length, drop, Result, Ok, All, AllPairs, refl, sym, ap, ◌∙◌, arith, lit<}
use Rattle.std.specs.List.{AllByRecursion, flat_map}
use Rattle.std.specs.Str.{IsUtf8, bytes_eq}
use Rattle.std.proofs.lemmas.List.{append-nil}
use Rattle.std.proofs.lemmas.List.Concat.{flat_map-cons}
use Rattle.arc_ids.specs.declared.named_id.ControlId.{ControlId}
use Rattle.arc_ids.specs.declared.named_id.RuleId.{RuleId}
use Rattle.arc_window.specs.declared.weekly.Window.{Window}
use Rattle.arc_data.specs.declared.batch.Batch.{Batch}
use Rattle.arc_data.specs.declared.batch.Entry.{Entry}
use Rattle.arc_data.specs.Valid.{IsName, IsDay, IsWindow, IsBatch, AreControls, AreZones, AreDates, AreWindows, AreBlocking, AreOutcome}
use Rattle.arc_command.specs.Reader.{Reader, pair, mapped, list_at, any}
use Rattle.arc_command.specs.Reading.{rule_at, name_at, day_at, window_at, new_zone_at, new_control_at, entry_at, overrides_at, batch_at, single_at, controls_at, dates_at, windows_at, blocking_at, outcome_at}
use Rattle.arc_command.specs.Spelling.{text_bytes, list_bytes, rule_bytes, long_bytes, window_bytes, entry_bytes, control_bytes, batch_bytes, single_bytes, controls_bytes, dates_bytes, windows_bytes, texts_bytes}
use Rattle.arc_command.specs.Typed.{IsTypedControl, IsTypedRule, IsTypedEntry, IsTypedZone, IsTypedBatch, AreTexts}
use Rattle.arc_command.proofs.FieldLaws.{IsField, pair_field, mapped_taken, mapped_again, mapped_field, refit}
use Rattle.arc_command.proofs.ListLaws.{list_field, IsListOf, IsTextOf, AllAfter}
use Rattle.arc_command.proofs.Doubles.{Alone, alone, from_alone, All-from_each, each-from_All, each_of_both, each_to, each-from_new, pairs-from_new, new-from_pairs, no_pairs}
use Rattle.arc_command.proofs.KindLaws.{rule_field, day_field, window_field, name_field, same_control, changes_control, IsNewControl, IsNewZone, IsNewEntry, controls_apart, zones_apart, entries_apart, new_control_field, new_zone_field, entry_field}

abbrev done : {A : Type 0} → A → Result A ℕ
done x = Ok x

-- ---- lists that may hold anything twice

-- so few and so many items, each of which fits
abbrev pub AreBetween : {A : Type 0} → ℕ → ℕ → (A → Type 0) → List A → Type 0
AreBetween least most F xs = (least ≤ length xs) × (length xs ≤ most) × AllByRecursion F xs

any_field : {A : Type 0} {read : Reader A} {t : A → List ℕ} {F : A → Type 0} (least most : ℕ) → most < 2 ^ 16 → IsField read t F →
    IsField (list_at least most (any read)) (list_bytes t) (AreBetween least most F)
any_field {A = A} {read = read} {t = t} {F = F} least most small field =
    refit (AreBetween least most F) (list_field least most small (any read) t (Alone F) (λ earlier. field))
    (λ xs f. (f.0, f.1, from_alone F [] xs f.2)) (λ xs f. (f.0, f.1, alone F [] xs f.2))

pub overrides_field : IsField overrides_at (list_bytes rule_bytes) (AreBetween 0 16 IsTypedRule)
overrides_field = any_field 0 16 (lit< tt) rule_field

pub dates_field : IsField dates_at dates_bytes AreDates
dates_field = refit AreDates (any_field 0 15 (lit< tt) day_field)
    (λ xs f. (f.1, All-from_each IsDay xs f.2)) (λ xs f. (omega arith, f.0, each-from_All IsDay xs f.1))

pub windows_field : IsField windows_at windows_bytes AreWindows
windows_field = refit AreWindows (any_field 0 15 (lit< tt) window_field)
    (λ xs f. (f.1, All-from_each IsWindow xs f.2)) (λ xs f. (omega arith, f.0, each-from_All IsWindow xs f.1))

names_of : (xs : List (List ℕ)) → AllByRecursion (IsTextOf 1 64) xs → All IsName xs × AreTexts xs
names_of xs each = (All-from_each IsName xs (each_to (IsTextOf 1 64) IsName (λ x f. (f.0, f.1)) xs each), each_to (IsTextOf 1 64) IsUtf8 (λ x f. f.2) xs each)

are_names : (xs : List (List ℕ)) → All IsName xs → AreTexts xs → AllByRecursion (IsTextOf 1 64) xs
are_names xs names texts = each_of_both IsName IsUtf8 (IsTextOf 1 64) (λ x f g. (f.0, f.1, g)) xs (each-from_All IsName xs names) texts

pub blocking_field : IsField blocking_at texts_bytes (λ (alarms : List (List ℕ)). AreBlocking alarms × AreTexts alarms)
blocking_field = refit (λ (alarms : List (List ℕ)). AreBlocking alarms × AreTexts alarms) (any_field 0 4 (lit< tt) name_field)
    (λ xs f. let both = names_of xs f.2 in ((f.1, both.0), both.1)) (λ xs f. (omega arith, f.0.0, are_names xs f.0.1 f.1))

pub outcome_field : IsField outcome_at texts_bytes (λ (alarms : List (List ℕ)). AreOutcome alarms × AreTexts alarms)
outcome_field = refit (λ (alarms : List (List ℕ)). AreOutcome alarms × AreTexts alarms) (any_field 1 4 (lit< tt) name_field)
    (λ xs f. let both = names_of xs f.2 in (((f.0, f.1), both.0), both.1)) (λ xs f. (f.0.0.0, f.0.0.1, are_names xs f.0.1 f.1))

-- ---- lists that hold nothing twice

abbrev pub AreSpellableControls : List ControlId → Type 0
AreSpellableControls controls = AreControls controls × AllByRecursion IsTypedControl controls

pub controls_field : IsField controls_at controls_bytes AreSpellableControls
controls_field = refit AreSpellableControls (list_field 1 32 (lit< tt) new_control_at control_bytes IsNewControl new_control_field)
    (λ xs f. (
      ((f.0, f.1), pairs-from_new same_control (λ c. c) IsTypedControl (λ a b. a ≢ b) controls_apart [] xs (no_pairs same_control (λ c. c) IsTypedControl (λ a b. a ≢ b) controls_apart) f.2),
      each-from_new same_control (λ c. c) IsTypedControl (λ a b. a ≢ b) controls_apart [] xs f.2,
    ))
    (λ xs f. (f.0.0.0, f.0.0.1, new-from_pairs same_control (λ c. c) IsTypedControl (λ a b. a ≢ b) controls_apart [] xs f.1 f.0.1))

abbrev pub AreSpellableZones : List (List ℕ) → Type 0
AreSpellableZones zones = AreZones zones × AllByRecursion IsTypedZone zones

pub zones_field : IsField (list_at 1 6 new_zone_at) texts_bytes AreSpellableZones
zones_field = refit AreSpellableZones (list_field 1 6 (lit< tt) new_zone_at text_bytes IsNewZone new_zone_field)
    (λ xs f. (
      ((f.0, f.1), pairs-from_new bytes_eq (λ z. z) IsTypedZone (λ a b. a ≢ b) zones_apart [] xs (no_pairs bytes_eq (λ z. z) IsTypedZone (λ a b. a ≢ b) zones_apart) f.2),
      each-from_new bytes_eq (λ z. z) IsTypedZone (λ a b. a ≢ b) zones_apart [] xs f.2,
    ))
    (λ xs f. (f.0.0.0, f.0.0.1, new-from_pairs bytes_eq (λ z. z) IsTypedZone (λ a b. a ≢ b) zones_apart [] xs f.1 f.0.1))

-- ---- batches

abbrev OfOthers : Entry → Entry → Type 0
OfOthers a b = a.control ≢ b.control

abbrev AreEntries : List Entry → Type 0
AreEntries entries = ((1 ≤ length entries) × (length entries ≤ 16) × AllPairs OfOthers entries) × AllByRecursion IsTypedEntry entries

entries_field : IsField (list_at 1 16 entry_at) (list_bytes entry_bytes) AreEntries
entries_field = refit AreEntries (list_field 1 16 (lit< tt) entry_at entry_bytes IsNewEntry entry_field)
    (λ xs f. (
      (f.0, f.1, pairs-from_new changes_control (λ e. e.control) IsTypedEntry OfOthers entries_apart [] xs (no_pairs changes_control (λ e. e.control) IsTypedEntry OfOthers entries_apart) f.2),
      each-from_new changes_control (λ e. e.control) IsTypedEntry OfOthers entries_apart [] xs f.2,
    ))
    (λ xs f. (f.0.0, f.0.1, new-from_pairs changes_control (λ e. e.control) IsTypedEntry OfOthers entries_apart [] xs f.1 f.0.2))

abbrev pub IsSpellableBatch : ℕ → Batch → Type 0
IsSpellableBatch most batch = IsBatch most batch × IsTypedBatch batch

pub batch_field : IsField batch_at batch_bytes (IsSpellableBatch 16)
unfolding batch_at batch_bytes
batch_field = mapped_field (λ (x : List Entry × List RuleId). record { entries = x.0; overrides = x.1 }) (λ (b : Batch). (b.entries, b.overrides)) batch_bytes (IsSpellableBatch 16)
    (pair_field entries_field overrides_field)
    (λ x f. refl) (λ x f. (record { entries = (f.0.0.0, f.0.0.1); differ = f.0.0.2; overrides = f.1.1 }, (f.0.1, f.1.2)))
    (λ b is. let valid : IsBatch 16 b = is.0 in (refl, (((valid.entries.0, valid.entries.1, valid.differ), is.1.0), (omega arith, valid.overrides, is.1.1))))

-- a batch of one change

pub one_item : {A : Type 0} (f : A → List ℕ) (x : A) → flat_map f (x ∷ []) ≡ f x
one_item f x = flat_map-cons f x [] ∙ append-nil (f x)

abbrev pub Single : Type 0
Single = Entry × List RuleId

abbrev pub single_of : Single → Batch
single_of x = record { entries = x.0 ∷ []; overrides = x.1 }

abbrev pub single_text : Single → List ℕ
single_text x = entry_bytes x.0 ++ list_bytes rule_bytes x.1

abbrev pub IsSingle : Single → Type 0
IsSingle x = IsTypedEntry x.0 × AreBetween 0 16 IsTypedRule x.1

one_differs : (x : Entry) → AllPairs OfOthers (x ∷ [])
one_differs x i j d lt within = absurd (omega arith)

pub single_texts : (x : Single) → single_bytes (single_of x) ≡ single_text x
unfolding single_bytes
single_texts x = ap (λ (w : List ℕ). w ++ list_bytes rule_bytes x.1) (one_item entry_bytes x.0)

pub single_fits : (x : Single) → IsSingle x → IsSpellableBatch 1 (single_of x)
single_fits x f = (record { entries = (omega arith, omega arith); differ = one_differs x.0; overrides = f.1.1 }, ((f.0, tt), f.1.2))

first_field : IsField (entry_at []) entry_bytes IsTypedEntry
first_field = refit IsTypedEntry (entry_field []) (λ x f. f.0) (λ x f. (f, refl))

single_pair : IsField (pair (entry_at []) overrides_at) single_text IsSingle
single_pair = pair_field first_field overrides_field

single_again : (bytes : List ℕ) (at : ℕ) (entries : List Entry) (overrides : List RuleId) (rest : List ℕ) →
    IsSpellableBatch 1 (record { entries = entries; overrides = overrides }) →
    drop at bytes ≡ (flat_map entry_bytes entries ++ list_bytes rule_bytes overrides) ++ rest →
    mapped single_of (pair (entry_at []) overrides_at) bytes at
    ≡ done (record { entries = entries; overrides = overrides }, at + length (flat_map entry_bytes entries ++ list_bytes rule_bytes overrides))
single_again bytes at [] overrides rest fits e = absurd (let none = fits.0.entries.0 in omega arith)
single_again bytes at (entry ∷ []) overrides rest fits e =
    let same : entry_bytes entry ++ list_bytes rule_bytes overrides ≡ flat_map entry_bytes (entry ∷ []) ++ list_bytes rule_bytes overrides =
    ap (λ (w : List ℕ). w ++ list_bytes rule_bytes overrides) (sym (one_item entry_bytes entry)) in
    let valid : IsBatch 1 (record { entries = entry ∷ []; overrides = overrides }) = fits.0 in
    let one = mapped_again single_of (pair (entry_at []) overrides_at) single_text IsSingle single_pair.again bytes at (entry, overrides) rest
    (fits.1.0.0, (omega arith, valid.overrides, fits.1.1)) (e ∙ ap (λ (w : List ℕ). w ++ rest) (sym same)) in
    one ∙ ap (λ (w : List ℕ). done (single_of (entry, overrides), at + length w)) same
single_again bytes at (entry ∷ other ∷ entries) overrides rest fits e = absurd (let many = fits.0.entries.1 in omega arith)

pub single_field : IsField single_at single_bytes (IsSpellableBatch 1)
unfolding single_at single_bytes
single_field = record {
  taken = mapped_taken single_of (pair (entry_at []) overrides_at) single_text single_bytes IsSingle (IsSpellableBatch 1) single_pair.taken (λ x f. single_texts x) single_fits;
  again = λ bytes at batch rest fits e. single_again bytes at batch.entries batch.overrides rest fits e;
}
