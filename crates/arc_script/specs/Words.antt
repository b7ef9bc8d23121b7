-- What single words of a line mean.
use Rattle.std.specs.Prelude.{ℕ, ◌==◌, ◌&&◌, ◌-◌, ◌^◌, Bool, false, true, not, nat_le, List, [], ◌∷◌, length, codes, Option, Some, None, Result, Ok, Err, if◌then◌else◌}
use Rattle.std.specs.Char.{is_ascii_digit}
use Rattle.std.specs.Str.{all_ascii_digits, bytes_eq}
use Rattle.std.specs.Str.Parse.{digits_value}
use Rattle.arc_script.specs.declared.step.ScriptCode.{ScriptCode}
use Rattle.arc_script.specs.declared.step.ScriptCode.TheVariants.{Word, Number, Name, State}
use Rattle.arc_script.specs.Chain.{◌>>=◌}

-- a number: `0`, or decimal digits that don't begin with 0
abbrev pub is_number : List ℕ → Bool
is_number [] = false
is_number (digit ∷ []) = is_ascii_digit digit
is_number (first ∷ second ∷ others) = not (first == 48) && all_ascii_digits (first ∷ second ∷ others)

-- the number that a word spells
abbrev pub number_of : List ℕ → Option ℕ
number_of word = if is_number word then Some (digits_value 10 word) else None

-- a number of at most so much
abbrev pub at_most : ℕ → Option ℕ → Result ℕ ScriptCode
at_most most None = Err Number
at_most most (Some n) = if nat_le n most then Ok n else Err Number

unfoldable pub number_up_to : ℕ → List ℕ → Result ℕ ScriptCode
number_up_to most word = at_most most (number_of word)

-- a number of 64 bits: a token, an identifier
abbrev pub long_number : List ℕ → Result ℕ ScriptCode
long_number word = number_up_to (2 ^ 64 - 1) word

-- a count: a number from 1 to so much
abbrev pub not_zero : ℕ → Result ℕ ScriptCode
not_zero n = if n == 0 then Err Number else Ok n

unfoldable pub count_up_to : ℕ → List ℕ → Result ℕ ScriptCode
count_up_to most word = number_up_to most word >>= not_zero

-- of the five nodes 0 to 4 the first is built
abbrev pub built_node : Result ℕ ScriptCode → Result ℕ ScriptCode
built_node (Ok node) = if node == 0 then Ok node else Err Word
built_node (Err code) = Err code

unfoldable pub node_of : List ℕ → Result ℕ ScriptCode
node_of word = built_node (number_up_to 4 word)

-- a name of 1 to 64 bytes
unfoldable pub name_of : List ℕ → Result (List ℕ) ScriptCode
name_of word = if nat_le 1 (length word) && nat_le (length word) 64 then Ok word else Err Name

-- a state: true for On
unfoldable pub state_of : List ℕ → Result Bool ScriptCode
state_of word =
    if bytes_eq word (codes "On") then Ok true else if bytes_eq word (codes "Off") then Ok false else Err State
