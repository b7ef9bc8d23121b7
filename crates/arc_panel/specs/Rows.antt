-- What a call of panels tells and leaves.
use Rattle.std.specs.Prelude.{◌≡◌, Result, Ok, Err, ⊤}
use Rattle.arc_data.specs.declared.part_end.PartEnd.{PartEnd}
use Rattle.arc_data.specs.declared.part_end.PartEnd.TheVariants.{Refused, Memory}
use Rattle.arc_data.specs.declared.reply.Refusal.{Refusal}
use Rattle.arc_plain.specs.Panels.{PlainPanels}

-- an answer with the next value, or a refusal, as a row of the plain cluster gives it
abbrev pub Tells : {A : Type 0} → Result (A × PlainPanels) Refusal → Result A PartEnd → PlainPanels → Type 0
Tells (Ok done) (Ok answer) new = (answer ≡ done.0) × (new ≡ done.1)
Tells (Ok done) (Err (Refused refusal)) new = ⊥
Tells (Ok done) (Err Memory) new = ⊤
Tells (Err why) (Ok answer) new = ⊥
Tells (Err why) (Err (Refused refusal)) new = refusal ≡ why
Tells (Err why) (Err Memory) new = ⊤

-- a list, or a refusal, as the plain cluster gives it
abbrev pub Lists : {A : Type 0} → Result A Refusal → Result A PartEnd → Type 0
Lists (Ok items) (Ok answer) = answer ≡ items
Lists (Ok items) (Err (Refused refusal)) = ⊥
Lists (Ok items) (Err Memory) = ⊤
Lists (Err why) (Ok answer) = ⊥
Lists (Err why) (Err (Refused refusal)) = refusal ≡ why
Lists (Err why) (Err Memory) = ⊤
