-- What went out so far is a prefix of the piece, and the count of faults hasn't fallen.
use Rattle.std.proofs.Common.{length, ◌-◌, ◌≤◌, take}
use Rattle.arc_bytes.specs.Sink.{Appends}
use Rattle.arc_bytes.proofs.all.write_all.Given as goal

abbrev pub invariant-loop-done : goal.invariant-loop-done
invariant-loop-done g l = record {
  within : l.done ≤ length l.bytes;
  out : Appends (g.K.Sink.taken l.initial.out) (g.K.Sink.taken l.out) (take l.done l.bytes);
  later : g.K.Sink.faults l.initial.out ≤ g.K.Sink.faults l.out;
}

abbrev pub decreases-loop-done : goal.decreases-loop-done
decreases-loop-done g l = length l.bytes - l.done
