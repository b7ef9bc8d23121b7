-- No start so far is the one, with a vote for the command behind it.
use Rattle.arc_data.specs.declared.record.Record.TheVariants.{Opened}
use Rattle.std.proofs.Common.{Some, drop}
use Rattle.std.proofs.Common.{◌≡◌, ℕ, ◌+◌, ◌<◌}
use Rattle.std.specs.List.{slice_get}
use Rattle.arc_voting.specs.Ids.{VotesFor}
use Rattle.arc_voting.proofs.ids.votes_since.Given as goal

abbrev pub invariant-loop-place : goal.invariant-loop-place
invariant-loop-place l = (place : ℕ) → place < l.place → slice_get l.journal place ≡ Some (Opened l.inc) →
    ¬ VotesFor (drop (place + 1) l.journal) l.command
