-- The line that says why a text is no script.
use Rattle.std.specs.Prelude.{ℕ, ◌++◌, List, codes, decimal}
use Rattle.arc_members.specs.declared.code.Code.{Code}
use Rattle.arc_members.specs.declared.code.Code.TheVariants as why
use Rattle.arc_script.specs.declared.step.ScriptCode.{ScriptCode}
use Rattle.arc_script.specs.declared.step.ScriptCode.TheVariants.{NotUtf8, Word, Shape, Number, Name, State, Config, Slots, TooLong, Call}

-- the name of a code of an operation
abbrev pub call_code_text : Code → List ℕ
call_code_text why.UnknownOperation = codes "UnknownOperation"
call_code_text why.BadJson = codes "BadJson"
call_code_text why.NotObject = codes "NotObject"
call_code_text why.MissingMember = codes "MissingMember"
call_code_text why.WrongType = codes "WrongType"
call_code_text why.BadId = codes "BadId"
call_code_text why.BadName = codes "BadName"
call_code_text why.BadComment = codes "BadComment"
call_code_text why.BadState = codes "BadState"
call_code_text why.EmptyEntries = codes "EmptyEntries"
call_code_text why.TooManyEntries = codes "TooManyEntries"
call_code_text why.DoubledEntry = codes "DoubledEntry"
call_code_text why.BadRule = codes "BadRule"
call_code_text why.BadType = codes "BadType"
call_code_text why.BadThreshold = codes "BadThreshold"
call_code_text why.BadWait = codes "BadWait"
call_code_text why.BadZone = codes "BadZone"
call_code_text why.BadExpiry = codes "BadExpiry"
call_code_text why.BadDate = codes "BadDate"
call_code_text why.BadWindow = codes "BadWindow"
call_code_text why.BadStatus = codes "BadStatus"

-- the name of a code
abbrev pub code_text : ScriptCode → List ℕ
code_text NotUtf8 = codes "NotUtf8"
code_text Word = codes "Word"
code_text Shape = codes "Shape"
code_text Number = codes "Number"
code_text Name = codes "Name"
code_text State = codes "State"
code_text Config = codes "Config"
code_text Slots = codes "Slots"
code_text TooLong = codes "TooLong"
code_text (Call code) = call_code_text code

-- why a text is no script
unfoldable pub bad_line : ℕ → ScriptCode → List ℕ
bad_line line code = codes "script line " ++ decimal line ++ codes ": " ++ code_text code ++ codes "\n"
