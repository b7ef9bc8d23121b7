-- No entry so far is a vote there.
use Rattle.std.proofs.Common.{take}
use Rattle.arc_voting.specs.Parts.{VotesAt}
use Rattle.arc_voting.proofs.entries.has_vote_at.Given as goal

abbrev pub invariant-loop-entry : goal.invariant-loop-entry
invariant-loop-entry l = ¬ VotesAt (take l.entry-index l.entries) l.slot l.ballot
