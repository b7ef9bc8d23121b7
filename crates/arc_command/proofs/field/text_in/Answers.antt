use Rattle.std.proofs.Common.{nat_le, length, take, arith}
use Rattle.std.proofs.lemmas.Str.{is_utf8-from_IsUtf8}
use Rattle.arc_command.proofs.Texts.{not_utf8}
use Rattle.arc_command.proofs.field.text_in.Goals as goal

pub returns-in-Ok-clause-some : goal.returns-in-Ok-clause-some
returns-in-Ok-clause-some c =
    (c.in-Ok.ensures.cases.0, omega arith, is_utf8-from_IsUtf8 (take c.args.len c.args.bytes.now) c.in-Ok.ensures.cases.1)

pub returns-in-Err-clause-none : goal.returns-in-Err-clause-none
returns-in-Err-clause-none c =
    not_utf8 (nat_le c.args.len (length c.args.bytes.now)) (take c.args.len c.args.bytes.now) c.in-Err.ensures.cases.0
