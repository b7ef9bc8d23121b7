use Rattle.std.proofs.Common.{ap, subst, ◌∙◌, arith}
use Rattle.arc_command.specs.Reading.{Gives, command_at}
use Rattle.arc_command.proofs.CommandLaws.{begins, reads_commands}
use Rattle.arc_command.proofs.codec.decode.Goals as goal

pub returns-clause-spelled : goal.returns-clause-spelled
returns-clause-spelled c =
    begins c.args.bytes.now c.read_command.result (λ i. omega (arith, c.type_inv.bytes i)) c.read_command.ensures

pub returns-clause-only : goal.returns-clause-only
returns-clause-only c = λ command rest is e.
    subst (λ read. Gives c.read_command.result read) (ap (λ bytes. command_at bytes 0) e ∙ reads_commands command rest is) c.read_command.ensures
