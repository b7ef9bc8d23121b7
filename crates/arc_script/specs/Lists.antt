-- What lists mean: items with commas between them.
use Rattle.std.specs.Prelude.{ℕ, ◌≡◌, ◌==◌, nat_le, nat_lt, List, [], ◌∷◌, length, count_by, codes, Bool, Result, Ok, Err, if◌then◌else◌}
use Rattle.std.specs.List.{slice_split, list_any, before_first, after_first}
use Rattle.std.specs.Str.{bytes_eq}
use Rattle.arc_ids.specs.declared.named_id.ControlId.{ControlId}
use Rattle.arc_ids.specs.declared.named_id.RuleId.{RuleId}
use Rattle.arc_data.specs.declared.batch.Entry.{Entry}
use Rattle.arc_members.specs.declared.code.Code.TheVariants.{TooManyEntries, DoubledEntry}
use Rattle.arc_script.specs.declared.step.ScriptCode.{ScriptCode}
use Rattle.arc_script.specs.declared.step.ScriptCode.TheVariants.{Call}
use Rattle.arc_script.specs.Chain.{◌>>=◌}
use Rattle.arc_script.specs.Words.{long_number, state_of}

-- ---- items

abbrev pub control : ℕ → Result ControlId ScriptCode
control n = Ok (record { 0 = n })

unfoldable pub control_of : List ℕ → Result ControlId ScriptCode
control_of item = long_number item >>= control

abbrev pub rule : ℕ → Result RuleId ScriptCode
rule n = Ok (record { 0 = n })

unfoldable pub rule_of : List ℕ → Result RuleId ScriptCode
rule_of item = long_number item >>= rule

abbrev pub entry : ControlId → Bool → Result Entry ScriptCode
entry which on = Ok (record { control = which; on = on })

-- `1=On`: a control before the first `=`, and its state after it
unfoldable pub entry_of : List ℕ → Result Entry ScriptCode
entry_of item = do
  which ← control_of (before_first (λ b. b == 61) item)
  on ← state_of (after_first (λ b. b == 61) item)
  entry which on

-- ---- lists

-- the items of a list, in order
abbrev pub each : {A : Type 0} → (List ℕ → Result A ScriptCode) → List (List ℕ) → Result (List A) ScriptCode
each read [] = Ok []
each read (item ∷ items) = read item >>= λ x. each read items >>= λ xs. Ok (x ∷ xs)

-- at most so many items, which are counted before they are read
abbrev pub counted : {A : Type 0} → ℕ → (List ℕ → Result A ScriptCode) → List (List ℕ) → Result (List A) ScriptCode
counted most read items = if nat_le (length items) most then each read items else Err (Call TooManyEntries)

unfoldable pub list_of : {A : Type 0} → ℕ → (List ℕ → Result A ScriptCode) → List ℕ → Result (List A) ScriptCode
list_of most read word = counted most read (slice_split (λ b. b == 44) word)

-- whether more than one item of a list has this number
unfoldable pub is_doubled : {A : Type 0} → (A → ℕ) → List A → ℕ → Bool
is_doubled number items n = nat_lt 1 (count_by (λ x. number x == n) items)

abbrev pub has_double : {A : Type 0} → (A → ℕ) → List A → Bool
has_double number items = list_any (λ x. is_doubled number items (number x)) items

-- a list in which each number stands once, which is tested when all items were read
abbrev pub once : {A : Type 0} → (A → ℕ) → List A → Result (List A) ScriptCode
once number items = if has_double number items then Err (Call DoubledEntry) else Ok items

abbrev pub number_of_control : ControlId → ℕ
number_of_control control = control.0

abbrev pub number_of_entry : Entry → ℕ
number_of_entry entry = entry.control.0

-- the controls of a rule: at most 32, each once
unfoldable pub controls_of : List ℕ → Result (List ControlId) ScriptCode
controls_of word = list_of 32 control_of word >>= once number_of_control

-- the changes of a batch: at most 16, each of another control
unfoldable pub entries_of : List ℕ → Result (List Entry) ScriptCode
entries_of word = list_of 16 entry_of word >>= once number_of_entry

-- the rules that a batch bypasses: none for `-`, and at most 16, which may repeat
unfoldable pub overrides_of : List ℕ → Result (List RuleId) ScriptCode
overrides_of word = if bytes_eq word (codes "-") then Ok [] else list_of 16 rule_of word
