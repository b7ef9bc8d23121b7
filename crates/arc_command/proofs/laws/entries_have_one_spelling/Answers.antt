use Rattle.arc_command.proofs.RecordLaws.{entries_have_one_spelling}
use Rattle.arc_command.proofs.laws.entries_have_one_spelling.Goals as goal

pub returns : goal.returns
returns c = entries_have_one_spelling
