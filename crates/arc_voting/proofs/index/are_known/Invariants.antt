use Rattle.std.specs.Prelude.{All, take}
use Rattle.arc_voting.specs.Index.{IsKnown}
use Rattle.arc_voting.specs.Journals.{journals_of}
use Rattle.arc_voting.proofs.index.are_known.Given as goal

-- those so far are known
abbrev pub invariant-loop-entry : goal.invariant-loop-entry
invariant-loop-entry l = All (IsKnown (journals_of l.journals) l.index) (take l.entry-index l.entries)
