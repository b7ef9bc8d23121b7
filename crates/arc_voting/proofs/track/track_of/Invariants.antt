-- Each closed slot so far has its part; votes at the open one stand from the start on.
use Rattle.arc_voting.proofs.Tracking.{IsTracked}
use Rattle.arc_voting.proofs.track.track_of.Given as goal

abbrev pub invariant-loop-place : goal.invariant-loop-place
invariant-loop-place l = IsTracked l.journal l.place l.parts.items l.start l.reach
