use Rattle.arc_bytes.specs.Counts.{HasRisen}
use Rattle.arc_journal.specs.Image.{records_of}
use Rattle.arc_script.specs.Grammar.{steps_of}
use Rattle.arc_drill.proofs.Reporting.{no_entry, wrote_none}
use Rattle.arc_drill.proofs.Whole.{judged_memory, lasts_none}
use Rattle.arc_drill.proofs.top.drill_text.Goals as goal

pub returns-in-Err-Memory-clause-wrote : goal.returns-in-Err-Memory-clause-wrote
returns-in-Err-Memory-clause-wrote g c = λ told.
    let disk = g.D.Disk in
    wrote_none (HasRisen (disk.faults c.args.disk) (disk.faults c.args.disk)) (records_of (disk.content c.args.disk)) (g.K.Sink.taken c.args.out.now) (steps_of c.args.text.now)
    (no_entry (c.requires.empty told))

pub returns-in-Err-Memory-clause-lasting : goal.returns-in-Err-Memory-clause-lasting
returns-in-Err-Memory-clause-lasting g c = λ told image left.
    let disk = g.D.Disk in
    lasts_none (HasRisen (disk.faults c.args.disk) (disk.faults c.args.disk)) image (g.K.Sink.taken c.args.out.now) (steps_of c.args.text.now)

pub returns-in-Err-Memory-clause-by_text : goal.returns-in-Err-Memory-clause-by_text
returns-in-Err-Memory-clause-by_text g c = judged_memory (g.K.Sink.taken c.args.out.now) (steps_of c.args.text.now)
