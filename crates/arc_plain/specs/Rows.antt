-- How the row of an operation is written: step by step, and the first refusal decides.
use Rattle.std.specs.Prelude.{Bool, Option, Some, None, Result, Ok, Err, if◌then◌else◌}
use Rattle.arc_data.specs.declared.reply.Refusal.{Refusal}

-- step by step: the first refusal decides
infixl 10 ◌>>=◌
abbrev pub ◌>>=◌ : {A B : Type 0} → Result A Refusal → (A → Result B Refusal) → Result B Refusal
(Ok x) >>= f = f x
(Err refusal) >>= f = Err refusal

-- to go on where the test holds, and to refuse elsewhere
abbrev pub require : Bool → Refusal → Result (Unit {0}) Refusal
require passes refusal = if passes then Ok tt else Err refusal

-- to go on where nothing was found, and to refuse by what was
abbrev pub refuse_found : {A : Type 0} → (A → Refusal) → Option A → Result (Unit {0}) Refusal
refuse_found why None = Ok tt
refuse_found why (Some x) = Err (why x)

-- to go on with what was found, and to refuse where nothing was
abbrev pub the_found : {A : Type 0} → Refusal → Option A → Result A Refusal
the_found refusal None = Err refusal
the_found refusal (Some x) = Ok x
