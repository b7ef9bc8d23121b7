-- The grammar of scripts: which steps a text spells, or its first bad line and the code of its first failing test.
use Rattle.std.specs.Prelude.{ℕ, ◌≡◌, ◌+◌, ◌==◌, Bool, false, true, not, nat_lt, List, [], ◌∷◌, length, map, codes, Option, Some, None, Result, Ok, Err, if◌then◌else◌, ⊤}
use Rattle.std.specs.List.{slice_split, list_any, before_first, after_first}
use Rattle.std.specs.Str.{bytes_eq, is_utf8}
use Rattle.std.specs.Str.Lines.{strip_carriage_return}
use Rattle.arc_ids.specs.declared.named_id.ControlId.{ControlId}
use Rattle.arc_ids.specs.declared.named_id.RuleId.{RuleId}
use Rattle.arc_data.specs.declared.batch.Entry.{Entry}
use Rattle.arc_members.specs.declared.code.Code.{Code}
use Rattle.arc_json.specs.Requests.{op_of}
use Rattle.arc_data.specs.declared.op.Op.{Op}
use Rattle.arc_data.specs.declared.op.Op.TheVariants.{CreateRoutingControl, GetRoutingControlState, UpdateRoutingControlState, UpdateRoutingControlStates, CreateSafetyRule}
use Rattle.arc_data.specs.declared.command.TheConstants.{MAX_MS}
use Rattle.arc_data.specs.declared.rule.RuleConfig.{RuleConfig}
use Rattle.arc_data.specs.declared.rule.RuleSpec.{RuleSpec}
use Rattle.arc_script.specs.declared.step.Head.{Head}
use Rattle.arc_script.specs.declared.step.ScriptCode.{ScriptCode}
use Rattle.arc_script.specs.declared.step.ScriptCode.TheVariants as code
use Rattle.arc_script.specs.declared.step.ScriptCode.TheVariants.{NotUtf8, Word, Shape, TooLong}
use Rattle.arc_script.specs.declared.step.ScriptEnd.{ScriptEnd}
use Rattle.arc_script.specs.declared.step.ScriptEnd.TheVariants as end
use Rattle.arc_script.specs.declared.step.Step.{Step}
use Rattle.arc_script.specs.declared.step.Step.TheVariants.{Slots, Call, Crash, Restart}
use Rattle.arc_script.specs.declared.step.TheConstants.{MAX_SCRIPT}
use Rattle.arc_script.specs.Chain.{◌>>=◌}
use Rattle.arc_script.specs.Words.{number_up_to, long_number, count_up_to, node_of, name_of, state_of}
use Rattle.arc_script.specs.Lists.{controls_of, entries_of, overrides_of}
use Rattle.arc_script.specs.Configs.{config_of}

-- ---- operations

-- the operation of a control in panel 1
abbrev pub new_control : List ℕ → Op
new_control name = CreateRoutingControl name (record { 0 = 1 })

abbrev pub get_control : ℕ → Op
get_control control = GetRoutingControlState (record { 0 = control })

-- a batch of one entry, without overrides
abbrev pub set_control : ℕ → Bool → Op
set_control control on =
    UpdateRoutingControlState (record {
      entries = record { control = record { 0 = control }; on = on } ∷ [];
      overrides = [];
    })

-- a batch of changes, which bypasses these rules
abbrev pub set_controls : List Entry → List RuleId → Op
set_controls entries overrides = UpdateRoutingControlStates (record { entries = entries; overrides = overrides })

-- an assertion in panel 1
abbrev pub assertion : List ℕ → List ControlId → RuleConfig → ℕ → RuleSpec
assertion name controls made wait = record {
  name = name;
  panel = record { 0 = 1 };
  controls = controls;
  targets = None;
  config = made;
  wait_ms = wait;
}

-- the gate of the same controls over these targets
abbrev pub gate_over : RuleSpec → List ControlId → RuleSpec
gate_over spec targets = record spec { targets = Some targets }

-- ---- lines of calls

-- what every call begins with: endpoint, time and token
unfoldable pub head_of : List ℕ → List ℕ → List ℕ → Result Head ScriptCode
head_of endpoint time token = do
  node ← node_of endpoint
  at_ms ← number_up_to MAX_MS time
  known ← long_number token
  Ok (record { node = node; at_ms = at_ms; token = known })

-- the call that asks for this
abbrev pub call : Head → Op → Step
call head op = Call head.node head.at_ms head.token op

-- `new E T K name`
unfoldable pub new_line : List (List ℕ) → Result Step ScriptCode
new_line (e ∷ t ∷ k ∷ name ∷ []) = do
  head ← head_of e t k
  text ← name_of name
  Ok (call head (new_control text))
new_line fields = Err Shape

-- `get E T K c`
unfoldable pub get_line : List (List ℕ) → Result Step ScriptCode
get_line (e ∷ t ∷ k ∷ c ∷ []) = do
  head ← head_of e t k
  control ← long_number c
  Ok (call head (get_control control))
get_line fields = Err Shape

-- `set E T K c On` or `Off`
unfoldable pub set_line : List (List ℕ) → Result Step ScriptCode
set_line (e ∷ t ∷ k ∷ c ∷ state ∷ []) = do
  head ← head_of e t k
  control ← long_number c
  on ← state_of state
  Ok (call head (set_control control on))
set_line fields = Err Shape

-- the waits of rules are at most a week, in milliseconds
abbrev pub wait_of : List ℕ → Result ℕ ScriptCode
wait_of word = number_up_to 604800000 word

-- `batch E T K entries overrides`
unfoldable pub batch_line : List (List ℕ) → Result Step ScriptCode
batch_line (e ∷ t ∷ k ∷ changes ∷ bypassed ∷ []) = do
  head ← head_of e t k
  entries ← entries_of changes
  overrides ← overrides_of bypassed
  Ok (call head (set_controls entries overrides))
batch_line fields = Err Shape

-- what both kinds of rules have: the configuration is tested behind the controls, which limit its threshold
unfoldable pub assertion_of : List ℕ → List ℕ → List ℕ → List ℕ → Result RuleSpec ScriptCode
assertion_of name config w asserted = do
  text ← name_of name
  wait ← wait_of w
  controls ← controls_of asserted
  made ← config_of (length controls) config
  Ok (assertion text controls made wait)

-- `assert E T K name config W controls`
unfoldable pub assert_line : List (List ℕ) → Result Step ScriptCode
assert_line (e ∷ t ∷ k ∷ name ∷ config ∷ w ∷ asserted ∷ []) = do
  head ← head_of e t k
  spec ← assertion_of name config w asserted
  Ok (call head (CreateSafetyRule spec))
assert_line fields = Err Shape

-- the targets of a gate are read behind its configuration
unfoldable pub gate_of : List ℕ → List ℕ → List ℕ → List ℕ → List ℕ → Result RuleSpec ScriptCode
gate_of name config w gating gated = do
  spec ← assertion_of name config w gating
  targets ← controls_of gated
  Ok (gate_over spec targets)

-- a gate behind endpoint, time and token
unfoldable pub gate_behind : List ℕ → List ℕ → List ℕ → List (List ℕ) → Result Step ScriptCode
gate_behind e t k (name ∷ config ∷ w ∷ gating ∷ gated ∷ []) = do
  head ← head_of e t k
  spec ← gate_of name config w gating gated
  Ok (call head (CreateSafetyRule spec))
gate_behind e t k fields = Err Shape

-- `gate E T K name config W gating targets`
unfoldable pub gate_line : List (List ℕ) → Result Step ScriptCode
gate_line (e ∷ t ∷ k ∷ fields) = gate_behind e t k fields
gate_line fields = Err Shape

-- ---- other lines

-- `slots N`
unfoldable pub slots_line : List (List ℕ) → Result Step ScriptCode
slots_line (n ∷ []) = count_up_to 16384 n >>= λ slots. Ok (Slots slots)
slots_line fields = Err Shape

-- `crash P`
unfoldable pub crash_line : List (List ℕ) → Result Step ScriptCode
crash_line (p ∷ []) = node_of p >>= λ node. Ok (Crash node)
crash_line fields = Err Shape

-- `restart P`
unfoldable pub restart_line : List (List ℕ) → Result Step ScriptCode
restart_line (p ∷ []) = node_of p >>= λ node. Ok (Restart node)
restart_line fields = Err Shape

-- ---- words

abbrev pub is_empty : List ℕ → Bool
is_empty word = length word == 0

-- no word of a step is empty
abbrev pub shaped : List (List ℕ) → Result (List (List ℕ)) ScriptCode
shaped fields = if list_any is_empty fields then Err Shape else Ok fields

-- the first word says which step it is
unfoldable pub step_of_words : List (List ℕ) → Result Step ScriptCode
step_of_words [] = Err Word
step_of_words (first ∷ fields) =
    if bytes_eq first (codes "slots") then shaped fields >>= slots_line
    else if bytes_eq first (codes "new") then shaped fields >>= new_line
    else if bytes_eq first (codes "get") then shaped fields >>= get_line
    else if bytes_eq first (codes "set") then shaped fields >>= set_line
    else if bytes_eq first (codes "batch") then shaped fields >>= batch_line
    else if bytes_eq first (codes "assert") then shaped fields >>= assert_line
    else if bytes_eq first (codes "gate") then shaped fields >>= gate_line
    else if bytes_eq first (codes "crash") then shaped fields >>= crash_line
    else if bytes_eq first (codes "restart") then shaped fields >>= restart_line
    else Err Word

-- ---- calls of any operation

-- why an operation can't be asked for
abbrev pub as_asked : Result Op Code → Result Op ScriptCode
as_asked (Ok op) = Ok op
as_asked (Err why) = Err (code.Call why)

-- only the body may be empty
unfoldable pub call_of : List ℕ → List ℕ → List ℕ → List ℕ → List ℕ → Result Step ScriptCode
call_of e t k operation body =
    if list_any is_empty (e ∷ t ∷ k ∷ operation ∷ []) then Err Shape
    else head_of e t k >>= λ head. as_asked (op_of operation body) >>= λ op. Ok (call head op)

abbrev pub before_space : List ℕ → List ℕ
before_space text = before_first (λ b. b == 32) text

abbrev pub after_space : List ℕ → List ℕ
after_space text = after_first (λ b. b == 32) text

-- `call E T K Operation body`: the body is the rest of the line behind one space
unfoldable pub call_line : List ℕ → Result Step ScriptCode
call_line e_on =
    let t_on = after_space e_on in
    let k_on = after_space t_on in
    let operation_on = after_space k_on in
    call_of (before_space e_on) (before_space t_on) (before_space k_on) (before_space operation_on) (after_space operation_on)

-- ---- lines

-- the words of other lines are separated by one space
abbrev pub step_of_text : List ℕ → Result Step ScriptCode
step_of_text text =
    if bytes_eq (before_space text) (codes "call") then call_line (after_space text)
    else step_of_words (slice_split (λ b. b == 32) text)

-- a line has to be UTF-8
unfoldable pub step_of : List ℕ → Result Step ScriptCode
step_of line = if is_utf8 line then step_of_text line else Err NotUtf8

-- ---- the whole text

-- a line that is empty or begins with `#` is no step
abbrev pub is_step : List ℕ → Bool
is_step [] = false
is_step (b ∷ line) = not (b == 35)

-- why a text is no script: its first bad line, and the code of that
abbrev pub BadLine : Type 0
BadLine = ℕ × ScriptCode

-- a step before the others
abbrev pub before_others : Step → Result (List Step) BadLine → Result (List Step) BadLine
before_others step (Ok steps) = Ok (step ∷ steps)
before_others step (Err bad) = Err bad

-- the step of line n, before those of the lines after it
abbrev pub at_line : ℕ → Result Step ScriptCode → Result (List Step) BadLine → Result (List Step) BadLine
at_line n (Ok step) others = before_others step others
at_line n (Err code) others = Err (n, code)

-- only the first step says how many slots there are
abbrev pub is_misplaced : Bool → Step → Bool
is_misplaced begun (Slots n) = begun
is_misplaced begun step = false

-- a step, where others came before it or none
abbrev pub placed : Bool → Step → Result Step ScriptCode
placed begun step = if is_misplaced begun step then Err code.Slots else Ok step

-- the step of a line, where others came before it or none
abbrev pub step_at : Bool → List ℕ → Result Step ScriptCode
step_at begun line = step_of line >>= placed begun

-- the steps of these lines, of which the first has the number n, and whether steps came before
abbrev pub steps_from : Bool → ℕ → List (List ℕ) → Result (List Step) BadLine
steps_from begun n [] = Ok []
steps_from begun n (line ∷ lines) =
    if is_step line then at_line n (step_at begun line) (steps_from true (n + 1) lines)
    else steps_from begun (n + 1) lines

-- lines end in LF, which the last may lack. A CR before that end is dropped
abbrev pub lines_of : List ℕ → List (List ℕ)
lines_of text = map strip_carriage_return (slice_split (λ b. b == 10) text)

-- the steps of a text, whose lines are counted from 1; a text over the limit has line 0
unfoldable pub steps_of : List ℕ → Result (List Step) BadLine
steps_of text = if nat_lt MAX_SCRIPT (length text) then Err (0, TooLong) else steps_from false 1 (lines_of text)

-- What a reader answered, seen by view, is what the grammar says, want of memory apart.
abbrev pub Gives : {X Y : Type 0} → (X → Y) → Result X ScriptEnd → Result Y BadLine → Type 0
Gives view (Ok x) read = read ≡ Ok (view x)
Gives view (Err (end.BadScript line code)) read = read ≡ Err (line, code)
Gives view (Err end.Memory) read = ⊤
