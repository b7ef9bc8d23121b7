use Rattle.std.proofs.Common.{ap, subst, ◌∙◌, arith}
use Rattle.arc_command.specs.Reading.{Gives, body_of}
use Rattle.arc_command.proofs.RecordLaws.{is_body, reads_entries}
use Rattle.arc_command.proofs.codec.decode_record.Goals as goal

pub returns-clause-spelled : goal.returns-clause-spelled
returns-clause-spelled c =
    is_body c.args.bytes.now c.read_body.result (λ i. omega (arith, c.type_inv.bytes i)) c.read_body.ensures

pub returns-clause-only : goal.returns-clause-only
returns-clause-only c = λ r is e.
    subst (λ read. Gives c.read_body.result read) (ap body_of e ∙ reads_entries r is) c.read_body.ensures
