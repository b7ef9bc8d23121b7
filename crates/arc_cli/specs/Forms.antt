-- The forms of words, and what each of them asks for.
use Rattle.std.specs.Prelude.{ℕ, ◌≡◌, ◌≤◌, ◌==◌, ◌&&◌, Bool, true, false, not, nat_le, List, [], ◌∷◌, codes, Option, Some, None, Result, Ok, Err, if◌then◌else◌, option_map, string_bytes, ⊤}
use Rattle.std.specs.Str.{all_ascii_digits, bytes_eq}
use Rattle.std.specs.Str.Parse.{digits_value}
use Rattle.arc_cli.specs.declared.task.Task.{Task}
use Rattle.arc_cli.specs.declared.task.Task.TheVariants as task
use Rattle.arc_cli.specs.declared.task.WordsEnd.{WordsEnd}
use Rattle.arc_cli.specs.declared.task.WordsEnd.TheVariants as end

-- What words may ask for:
pub data Asked : Type 0 where
  -- a drill of the script in the file with this path, or of the one on standard input
  Drill : (path : Option (List ℕ)) → Asked
  -- the generated script of this size
  Gen : (size : ℕ) → Asked

-- a word that begins with `-`, which no form has
abbrev pub is_option : List ℕ → Bool
is_option [] = false
is_option (b ∷ word) = b == 45

-- one path, or none
abbrev pub is_drill : List (List ℕ) → Bool
is_drill [] = true
is_drill (path ∷ []) = not (is_option path)
is_drill (path ∷ other ∷ others) = false

-- the path, where there is one
abbrev pub path_in : List (List ℕ) → Option (List ℕ)
path_in [] = None
path_in (path ∷ others) = Some path

-- `drill` or `drill FILE`, behind the first word
unfoldable pub drill_of : List (List ℕ) → Option Asked
drill_of fields = if is_drill fields then Some (Drill (path_in fields)) else None

-- a number above 0 as it is printed: digits that don't begin with 0
abbrev pub is_count : List ℕ → Bool
is_count [] = false
is_count (first ∷ others) = not (first == 48) && all_ascii_digits (first ∷ others)

-- a size is from 1 to 4,000
abbrev pub in_range : ℕ → Option ℕ
in_range size = if nat_le 1 size && nat_le size 4000 then Some size else None

-- the size that a word says
unfoldable pub size_of : List ℕ → Option ℕ
size_of word = if is_count word then in_range (digits_value 10 word) else None

-- `gen N`, behind the first word
unfoldable pub gen_of : List (List ℕ) → Option Asked
gen_of (size ∷ []) = option_map Gen (size_of size)
gen_of fields = None

-- what words ask for: the first names the command
unfoldable pub task_of : List (List ℕ) → Option Asked
task_of [] = None
task_of (command ∷ fields) =
    if bytes_eq command (codes "drill") then drill_of fields
    else if bytes_eq command (codes "gen") then gen_of fields
    else None

-- a task, as what is asked for
abbrev pub asked : Task → Asked
asked (task.Drill script) = Drill (option_map string_bytes script)
asked (task.Gen size) = Gen size

-- a drill of a file
abbrev pub NamesFile : Option Asked → Type 0
NamesFile (Some (Drill (Some path))) = ⊤
NamesFile found = ⊥

-- What was read of words is what they ask for; Memory comes only where they name a file.
abbrev pub Reads : Result Task WordsEnd → Option Asked → Type 0
Reads (Ok read) found = found ≡ Some (asked read)
Reads (Err end.Usage) found = found ≡ None
Reads (Err end.Memory) found = NamesFile found

-- a generated script's size is from 1 to 4,000
abbrev pub IsWithin : Task → Type 0
IsWithin (task.Drill script) = ⊤
IsWithin (task.Gen size) = (1 ≤ size) × (size ≤ 4000)
