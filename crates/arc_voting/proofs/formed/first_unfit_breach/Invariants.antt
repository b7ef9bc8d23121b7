-- Every journal so far keeps the rule.
use Rattle.std.proofs.Common.{ℕ, ◌<◌}
use Rattle.arc_voting.specs.declared.rule.Rule.TheVariants.{V1}
use Rattle.arc_voting.specs.Journals.{journals_of}
use Rattle.arc_voting.specs.Sound.{Keeps}
use Rattle.arc_voting.proofs.formed.first_unfit_breach.Given as goal

abbrev pub invariant-loop-node : goal.invariant-loop-node
invariant-loop-node l = (n p : ℕ) → n < l.node → Keeps (journals_of l.journals) V1 n p
