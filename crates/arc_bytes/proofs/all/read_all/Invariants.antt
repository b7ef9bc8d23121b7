-- The bytes so far are those that came, within the limit, and the count of faults has stayed.
use Rattle.std.proofs.Common.{◌≡◌, ◌-◌, ◌≤◌, vec_len}
use Rattle.arc_bytes.specs.Source.{Came}
use Rattle.arc_bytes.proofs.all.read_all.Given as goal

abbrev pub invariant-loop-bytes : goal.invariant-loop-bytes
invariant-loop-bytes g l = record {
  within : vec_len l.bytes ≤ l.limit;
  came : Came (g.S.Source.left l.initial.src) (g.S.Source.left l.src) l.bytes.items;
  stays : g.S.Source.faults l.src ≡ g.S.Source.faults l.initial.src;
}

abbrev pub decreases-loop-bytes : goal.decreases-loop-bytes
decreases-loop-bytes g l = l.limit - vec_len l.bytes
