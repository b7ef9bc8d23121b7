use Rattle.arc_state.proofs.Yielding.{HasMet}
use Rattle.arc_state.proofs.autoshifts.yield_to.Given as goal

-- the runs so far have met the event
abbrev pub invariant-loop-i : goal.invariant-loop-i
invariant-loop-i l = HasMet l.resources l.zone l.now l.initial.practices l.practices l.i
