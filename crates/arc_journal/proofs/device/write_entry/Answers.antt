-- Two calls behind two calls are four.
use Rattle.std.proofs.Common.{arith, ◌≤◌}
use Rattle.arc_journal.proofs.RunLemmas.{writes_behind}
use Rattle.arc_journal.proofs.device.write_entry.Goals as goal

pub returns-clause-calls : goal.returns-clause-calls
returns-clause-calls g c =
    let disk = g.D.Disk in let some : 1 ≤ 2 = omega arith in
    writes_behind disk.moment disk.faults disk.stops_in disk.is_tame c.args.disk.now c.write_synced.new.disk c.write_synced-2.new.disk 2 2 c.write_synced-2.result some c.in-Ok.ensures.calls c.write_synced-2.ensures.calls
