-- No vote of a node so far gives the id to another command.
use Rattle.std.proofs.Common.{ℕ, ◌<◌}
use Rattle.arc_voting.specs.Journals.{journals_of}
use Rattle.arc_voting.specs.Ids.{HasNoDouble}
use Rattle.arc_voting.proofs.ids.has_no_earlier_double.Given as goal

abbrev pub invariant-loop-former : goal.invariant-loop-former
invariant-loop-former l = (n : ℕ) → n < l.former → HasNoDouble (journals_of l.journals n) l.command
