-- Members of an object. Of a doubled name the last one counts, and `null` counts as absent.
use Rattle.std.specs.Prelude.{ℕ, List, Option, Some, None, option_and_then, Result, Ok, Err}
use Rattle.serde_json.specs.Data.{Data, null}
use Rattle.serde_json.specs.Find.{get}
use Rattle.arc_members.specs.declared.code.Code.{Code}
use Rattle.arc_members.specs.declared.code.Code.TheVariants.{MissingMember}
use Rattle.arc_members.specs.Reading.{Reading, ◌>>=◌}

-- `null` counts as absent
abbrev pub not_null : Data → Option Data
not_null null = None
not_null d = Some d

-- the member of this name
unfoldable pub given : List ℕ → Data → Option Data
given name within = option_and_then not_null (get name within)

-- a member that has to be there
abbrev pub required_of : {A : Type 0} → Reading A → Option Data → Result A Code
required_of read None = Err MissingMember
required_of read (Some d) = read d

unfoldable pub required : {A : Type 0} → Reading A → List ℕ → Reading A
required read name within = required_of read (given name within)

-- a member that may be absent
abbrev pub optional_of : {A : Type 0} → Reading A → Option Data → Result (Option A) Code
optional_of read None = Ok None
optional_of read (Some d) = read d >>= λ x. Ok (Some x)

unfoldable pub optional : {A : Type 0} → Reading A → List ℕ → Reading (Option A)
optional read name within = optional_of read (given name within)

-- a member that is taken for this value where it is absent
abbrev pub default_of : {A : Type 0} → A → Reading A → Option Data → Result A Code
default_of x read None = Ok x
default_of x read (Some d) = read d

unfoldable pub defaulted : {A : Type 0} → A → Reading A → List ℕ → Reading A
defaulted x read name within = default_of x read (given name within)
