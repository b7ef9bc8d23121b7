-- How the readers inside answer what the grammar says.
use Rattle.std.specs.Prelude.{◌≡◌, Bool, true, false, List, [], ◌∷◌, ◌++◌, Result, Ok, Err, ⊤}
use Rattle.arc_script.specs.declared.end.LineEnd.{LineEnd}
use Rattle.arc_script.specs.declared.end.LineEnd.TheVariants as end
use Rattle.arc_script.specs.declared.step.ScriptCode.{ScriptCode}
use Rattle.arc_script.specs.declared.step.ScriptEnd.{ScriptEnd}
use Rattle.arc_script.specs.declared.step.ScriptEnd.TheVariants as why
use Rattle.arc_script.specs.declared.step.Step.{Step}
use Rattle.arc_script.specs.Grammar.{BadLine}

-- what a reader of words answered, seen by view, is what they spell
abbrev pub Spells : {X Y : Type 0} → (X → Y) → Result X ScriptCode → Result Y ScriptCode → Type 0
Spells view (Ok x) read = read ≡ Ok (view x)
Spells view (Err code) read = read ≡ Err code

-- what a reader of a line answered is what it spells, want of memory apart
abbrev pub Reads : {X : Type 0} → Result X LineEnd → Result X ScriptCode → Type 0
Reads (Ok x) read = read ≡ Ok x
Reads (Err (end.Bad code)) read = read ≡ Err code
Reads (Err end.Memory) read = ⊤

-- what was read so far, before what is read behind it
abbrev pub behind : {X E : Type 0} → List X → Result (List X) E → Result (List X) E
behind front (Ok xs) = Ok (front ++ xs)
behind front (Err bad) = Err bad

-- whether steps came before
abbrev pub begun : List Step → Bool
begun [] = false
begun (step ∷ steps) = true

-- why reading ended is what the grammar says, want of memory apart
abbrev pub Fails : ScriptEnd → Result (List Step) BadLine → Type 0
Fails (why.BadScript line code) read = read ≡ Err (line, code)
Fails why.Memory read = ⊤
