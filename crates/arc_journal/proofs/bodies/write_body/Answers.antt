-- What is spelled is read again.
use Rattle.std.proofs.Common.{ap}
use Rattle.arc_journal.specs.Bodies.{read_record}
use Rattle.arc_journal.proofs.bodies.write_body.Goals as goal

pub returns-in-Ok-clause-reads : goal.returns-in-Ok-clause-reads
returns-in-Ok-clause-reads c =
    ap read_record (c.spelled_entries_are_read.ensures c.args.entry.now (record { valid = c.requires; typed = c.in-Ok.ensures.typed }))
