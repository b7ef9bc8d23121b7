use Rattle.std.proofs.Common.{◌≡◌, ◌+◌, take}
use Rattle.arc_snapshot.specs.Seats.{known_at}
use Rattle.arc_snapshot.specs.Writing.{Agree, Takes, lists, next_of}
use Rattle.arc_snapshot.proofs.writing.take_over.Given as goal

-- the commands so far were taken over, recorded and counted
abbrev pub invariant-loop-command : goal.invariant-loop-command
invariant-loop-command l =
    let was = l.initial.writer in
    let old = lists was.desk.shown.value (next_of was.desk.shown.value was.behind was.log.items) in
    let next = next_of l.writer.desk.shown.value l.writer.behind l.writer.log.items in
    Takes old (take l.command-index l.new) (lists l.writer.desk.shown.value next)
    × Agree l.writer.desk.shown.value next (known_at l.writer.desk.place) l.kept l.taken
    × (l.taken ≡ l.initial.taken + l.command-index)
