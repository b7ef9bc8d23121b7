use Rattle.arc_command.proofs.CommandLaws.{reads_commands}
use Rattle.arc_command.proofs.laws.spelled_commands_are_read.Goals as goal

pub returns : goal.returns
returns c = reads_commands
