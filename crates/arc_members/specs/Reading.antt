-- How a value of JSON is read: test by test, and the first that fails gives the code.
use Rattle.std.specs.Prelude.{◌≡◌, ℕ, ◌&&◌, Bool, nat_le, List, [], ◌∷◌, option_map, option_and_then, is_some, Result, Ok, Err, if◌then◌else◌, ⊤}
use Rattle.std.specs.Option.{ok_or}
use Rattle.serde_json.specs.Data.{Data, Items, no_items, item}
use Rattle.serde_json.specs.Find.{as_array, as_bool, as_number, as_object, as_str, as_u64}
use Rattle.arc_members.specs.declared.code.Code.{Code}
use Rattle.arc_members.specs.declared.code.Code.TheVariants.{WrongType}
use Rattle.arc_members.specs.declared.code.RequestEnd.{RequestEnd}
use Rattle.arc_members.specs.declared.code.RequestEnd.TheVariants as end

-- what a value is read as, or the code of the first test that fails
abbrev pub Reading : Type 0 → Type 0
Reading A = Data → Result A Code

-- go on where no test failed
infixl 10 ◌>>=◌
abbrev pub ◌>>=◌ : {A B : Type 0} → Result A Code → (A → Result B Code) → Result B Code
(Ok x) >>= f = f x
(Err code) >>= f = Err code

-- a value that passes a test, else this code
abbrev pub kept : {A : Type 0} → (A → Bool) → Code → A → Result A Code
kept fits code x = if fits x then Ok x else Err code

-- from so many to so many
abbrev pub between : ℕ → ℕ → ℕ → Bool
between least most n = nat_le least n && nat_le n most

-- What a function answered is what is read, want of memory apart.
abbrev pub Gives : {A : Type 0} → Result A RequestEnd → Result A Code → Type 0
Gives (Ok x) read = read ≡ Ok x
Gives (Err (end.BadRequest code)) read = read ≡ Err code
Gives (Err end.Memory) read = ⊤

-- ---- values by their types in JSON

-- the items of an array
abbrev pub list_of : Items → List Data
list_of no_items = []
list_of (item d ds) = d ∷ list_of ds

unfoldable pub text_in : Reading (List ℕ)
text_in d = ok_or (as_str d) WrongType

-- a whole number from 0 to 2^64 - 1
unfoldable pub whole_in : Reading ℕ
whole_in d = ok_or (option_and_then as_u64 (as_number d)) WrongType

unfoldable pub truth_in : Reading Bool
truth_in d = ok_or (as_bool d) WrongType

unfoldable pub items_in : Reading (List Data)
items_in d = ok_or (option_map list_of (as_array d)) WrongType

-- an object, whose members are read after it
unfoldable pub object_in : Reading Data
object_in d = if is_some (as_object d) then Ok d else Err WrongType
