-- What kept rules stand for.
use Rattle.std.specs.Prelude.{ℕ, ◌≡◌, ◌≤◌, List, length, map, All, Result, Ok, Err, ⊤}
use Rattle.arc_data.specs.declared.part_end.PartEnd.{PartEnd}
use Rattle.arc_data.specs.declared.part_end.PartEnd.TheVariants.{Refused, Memory}
use Rattle.arc_data.specs.declared.reply.Refusal.{Refusal}
use Rattle.arc_plain.specs.Rules.{PlainRule, PlainRules, Change, last_change}
use Rattle.arc_rules.specs.declared.kept.Kept.{Kept}
use Rattle.arc_rules.specs.declared.rules.Rules.{Rules}

-- what is kept of a rule: the time of its last change in place of the list of changes
abbrev pub kept_of : List Change → PlainRule → Kept
kept_of changes r = record { rule = r.rule; spec = r.spec; last = last_change changes r }

-- Kept rules stand for the rules of a plain state where they are that state's, with the times of their last changes.
-- In a plain state no rule was made after more changes than there are.
pub record StandsFor (kept : Rules) (plain : PlainRules) : Type 0 where
  pub rules : kept.rules ≡ map (kept_of plain.changes) plain.rules
  pub drawn : kept.drawn ≡ plain.rules_drawn
  pub made_before : All (λ r. r.made_after ≤ length plain.changes) plain.rules

-- an answer with the next value, or a refusal, as a row of the plain cluster gives it
abbrev pub Tells : {A : Type 0} → Result (A × PlainRules) Refusal → Result A PartEnd → Rules → Type 0
Tells (Ok done) (Ok answer) new = (answer ≡ done.0) × StandsFor new done.1
Tells (Ok done) (Err (Refused refusal)) new = ⊥
Tells (Ok done) (Err Memory) new = ⊤
Tells (Err why) (Ok answer) new = ⊥
Tells (Err why) (Err (Refused refusal)) new = refusal ≡ why
Tells (Err why) (Err Memory) new = ⊤

-- In every plain state that the old value stands for, the answer is that of the row, and the new value stands for the
-- state that it leaves.
abbrev pub Does : {A : Type 0} → (PlainRules → Result (A × PlainRules) Refusal) → Rules → Result A PartEnd → Rules → Type 0
Does row old result new = (plain : PlainRules) → StandsFor old plain → Tells (row plain) result new

-- how many identifiers of rules were drawn
abbrev pub drawn_of : Rules → ℕ
drawn_of rules = rules.drawn
