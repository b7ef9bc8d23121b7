-- Nothing is in doubt so far.
use Rattle.std.proofs.Common.{◌≡◌}
use Rattle.arc_journal.specs.Journal.{IsSettled, slots_of}
use Rattle.arc_bench.proofs.journal.append_all.Given as goal

abbrev pub invariant-loop : goal.invariant-loop
invariant-loop g l = record {
  settled : IsSettled g.D.Disk.tells g.D.Disk.content g.D.Disk.may_leave l.journal;
  slots : slots_of l.journal ≡ 16384;
}
