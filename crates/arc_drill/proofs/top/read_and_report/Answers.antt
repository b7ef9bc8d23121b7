use Rattle.arc_bytes.specs.Counts.{HasRisen}
use Rattle.arc_journal.specs.Image.{records_of}
use Rattle.arc_script.specs.Grammar.{steps_of}
use Rattle.arc_drill.proofs.Reporting.{no_entry}
use Rattle.arc_drill.specs.Drilled.{LastsBy, Wrote}
use Rattle.arc_drill.proofs.Whole.{JudgedAs, judged_memory, judged_unread, lasts_bad, lasts_none, of_any, too_long, wrote_bad, wrote_unread}
use Rattle.arc_drill.proofs.top.read_and_report.Goals as goal

pub returns-in-Err-TooLong-clause-wrote : goal.returns-in-Err-TooLong-clause-wrote
returns-in-Err-TooLong-clause-wrote g c = λ told.
    let disk = g.D.Disk in
    let reads = rw c.in-Err-TooLong.field-0-is at c.in-Err-TooLong.ensures.reads in
    let failed = HasRisen (disk.faults c.args.disk) (disk.faults c.args.disk) in
    let journal = records_of (disk.content c.args.disk) in
    too_long (Wrote failed journal (g.K.Sink.taken c.args.out.now) (g.K.Sink.taken c.refuse.new.out) c.refuse.result) (g.S.Source.left c.args.src.now) (g.S.Source.left c.read_all.new.src) reads.0 reads.1 reads.2.1
    (wrote_bad failed journal (g.K.Sink.taken c.args.out.now) (g.K.Sink.taken c.refuse.new.out) c.refuse.result _ c.refuse.ensures.wrote)

pub returns-in-Err-Memory-clause-wrote : goal.returns-in-Err-Memory-clause-wrote
returns-in-Err-Memory-clause-wrote g c = λ told.
    let disk = g.D.Disk in
    wrote_unread (HasRisen (disk.faults c.args.disk) (disk.faults c.args.disk)) (records_of (disk.content c.args.disk)) (g.S.Source.left c.args.src.now) (g.K.Sink.taken c.args.out.now)
    (no_entry (c.requires.empty told))

pub returns-in-Err-TooLong-clause-lasting : goal.returns-in-Err-TooLong-clause-lasting
returns-in-Err-TooLong-clause-lasting g c = λ told image left.
    let disk = g.D.Disk in
    let reads = rw c.in-Err-TooLong.field-0-is at c.in-Err-TooLong.ensures.reads in
    let failed = HasRisen (disk.faults c.args.disk) (disk.faults c.args.disk) in
    too_long (LastsBy failed image (g.K.Sink.taken c.args.out.now) (g.K.Sink.taken c.refuse.new.out) c.refuse.result) (g.S.Source.left c.args.src.now) (g.S.Source.left c.read_all.new.src) reads.0 reads.1 reads.2.1
    (lasts_bad failed image (g.K.Sink.taken c.args.out.now) (g.K.Sink.taken c.refuse.new.out) c.refuse.result _)

pub returns-in-Err-TooLong-clause-by_text : goal.returns-in-Err-TooLong-clause-by_text
returns-in-Err-TooLong-clause-by_text g c =
    let reads = rw c.in-Err-TooLong.field-0-is at c.in-Err-TooLong.ensures.reads in
    too_long (JudgedAs (g.K.Sink.taken c.args.out.now) (g.K.Sink.taken c.refuse.new.out) c.refuse.result) (g.S.Source.left c.args.src.now) (g.S.Source.left c.read_all.new.src) reads.0 reads.1 reads.2.1
    c.refuse.ensures.wrote

pub returns-in-Err-Memory-clause-lasting : goal.returns-in-Err-Memory-clause-lasting
returns-in-Err-Memory-clause-lasting g c = λ told image left.
    let disk = g.D.Disk in
    let failed = HasRisen (disk.faults c.args.disk) (disk.faults c.args.disk) in
    of_any (g.S.Source.left c.args.src.now) _ (λ text. lasts_none failed image (g.K.Sink.taken c.args.out.now) (steps_of text))

pub returns-in-Err-Memory-clause-by_text : goal.returns-in-Err-Memory-clause-by_text
returns-in-Err-Memory-clause-by_text g c =
    of_any (g.S.Source.left c.args.src.now) _ (λ text. judged_memory (g.K.Sink.taken c.args.out.now) (steps_of text))

pub returns-in-Err-Failed-clause-by_text : goal.returns-in-Err-Failed-clause-by_text
returns-in-Err-Failed-clause-by_text g c =
    of_any (g.S.Source.left c.args.src.now) _ (λ text. judged_unread (g.K.Sink.taken c.args.out.now) (steps_of text))
