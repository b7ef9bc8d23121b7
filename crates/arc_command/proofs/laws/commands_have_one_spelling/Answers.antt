use Rattle.arc_command.proofs.CommandLaws.{one_spelling}
use Rattle.arc_command.proofs.laws.commands_have_one_spelling.Goals as goal

pub returns : goal.returns
returns c = one_spelling
