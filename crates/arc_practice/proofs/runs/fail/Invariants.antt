use Rattle.std.proofs.Common.{◌≡◌, ◌++◌, map, take, drop}
use Rattle.arc_data.specs.declared.practice.Ending.TheVariants.{Alarm}
use Rattle.arc_plain.specs.Practice.{ended_where, fails_by}
use Rattle.arc_practice.proofs.runs.fail.Given as goal

-- the event has met the runs so far
abbrev pub invariant-loop-run : goal.invariant-loop-run
invariant-loop-run l =
    l.run-items ≡ map (ended_where (fails_by l.alarm) Alarm l.now) (take l.run-index l.initial.run-items) ++ drop l.run-index l.initial.run-items
