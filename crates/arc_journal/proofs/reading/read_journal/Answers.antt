-- The head and the entries that were read, and a gate that isn't open.
use Rattle.arc_journal.proofs.Walking.{end_of_read, is_journal}
use Rattle.arc_journal.proofs.reading.read_journal.Goals as goal

pub returns-clause-journal : goal.returns-clause-journal
returns-clause-journal c =
    let begins = c.in-Ok.ensures.head in
    is_journal c.args.node c.in-Ok.max_slots c.in-Ok-read_entries.read.0.items c.in-Ok-read_entries.read.1 c.args.image.now begins.some begins.most begins.bytes c.in-Ok-read_entries.ensures.read c.in-Ok-read_entries.ensures.closed

pub returns-clause-end : goal.returns-clause-end
returns-clause-end c =
    end_of_read c.in-Ok.max_slots c.in-Ok-read_entries.read.0.items c.in-Ok-read_entries.read.1 c.args.image.now c.in-Ok-read_entries.ensures.read c.in-Ok.ensures.gate
