-- Where a line fails, the whole text fails so.
use Rattle.std.proofs.Common.{◌≡◌, ℕ, Bool, List, [], ◌∷◌, Option, Some, None, MatchOption, Result, Err, sym, ap, ◌∙◌}
use Rattle.arc_script.specs.declared.step.ScriptEnd.{ScriptEnd}
use Rattle.arc_script.specs.declared.step.ScriptEnd.TheVariants.{BadScript, Memory}
use Rattle.arc_script.specs.declared.step.Step.{Step}
use Rattle.arc_script.specs.Grammar.{BadLine, Gives, steps_from}
use Rattle.arc_script.specs.Reading.{behind, Fails}

-- the first line, and those after it
has_first : {X : Type 0} (others : Option X) (all : List (List ℕ)) (line : List ℕ) (rest : X → List (List ℕ))
    → MatchOption others (all ≡ line ∷ []) (λ x. all ≡ line ∷ rest x) → (lines : List (List ℕ)) × (all ≡ line ∷ lines)
has_first None all line rest is = ([], is)
has_first (Some x) all line rest is = (rest x, is)

fails_behind : {X : Type 0} (view : X → List Step) (front : List Step) (end : ScriptEnd) (part whole : Result (List Step) BadLine)
    → behind front part ≡ whole → Fails end part → Gives view (Err end) whole
fails_behind view front (BadScript line code) part whole same fails = sym same ∙ ap (behind front) fails
fails_behind view front Memory part whole same fails = tt

-- the first line of what is left fails, whatever comes after it
pub first_fails : {X Z : Type 0} (view : X → List Step) (front : List Step) (end : ScriptEnd) (begun : Bool) (n : ℕ) (others : Option Z) (all : List (List ℕ)) (line : List ℕ) (rest : Z → List (List ℕ)) (whole : Result (List Step) BadLine)
    → MatchOption others (all ≡ line ∷ []) (λ x. all ≡ line ∷ rest x) → behind front (steps_from begun n all) ≡ whole
    → ((lines : List (List ℕ)) → Fails end (steps_from begun n (line ∷ lines))) → Gives view (Err end) whole
first_fails view front end begun n others all line rest whole is same fails =
    let first = has_first others all line rest is in
    fails_behind view front end (steps_from begun n (line ∷ first.0)) whole (rw first.1 at same) (fails first.0)
