-- One test after the other.
use Rattle.std.specs.Prelude.{Result, Ok, Err}
use Rattle.arc_script.specs.declared.step.ScriptCode.{ScriptCode}

-- test by test: the first that fails decides
infixl 10 ◌>>=◌
abbrev pub ◌>>=◌ : {A B : Type 0} → Result A ScriptCode → (A → Result B ScriptCode) → Result B ScriptCode
(Ok x) >>= f = f x
(Err code) >>= f = Err code
