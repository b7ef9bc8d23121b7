-- Every entry so far keeps the rule.
use Rattle.std.proofs.Common.{ℕ, ◌<◌}
use Rattle.arc_voting.specs.Journals.{journals_of}
use Rattle.arc_voting.specs.Sound.{Keeps}
use Rattle.arc_voting.proofs.breaches.first_breaking.Given as goal

abbrev pub invariant-loop-place : goal.invariant-loop-place
invariant-loop-place l = (p : ℕ) → p < l.place → Keeps (journals_of l.journals) l.rule l.node p
