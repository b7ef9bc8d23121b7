use Rattle.arc_command.proofs.RecordLaws.{reads_entries}
use Rattle.arc_command.proofs.laws.spelled_entries_are_read.Goals as goal

pub returns : goal.returns
returns c = reads_entries
