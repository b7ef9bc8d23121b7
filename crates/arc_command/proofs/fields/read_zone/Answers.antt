use Rattle.std.proofs.Common.{arith, lit<}
use Rattle.arc_command.proofs.ListLaws.{text_field}
use Rattle.arc_command.proofs.fields.read_zone.Goals as goal

pub returns : goal.returns
returns c =
    let field = text_field 1 32 (lit< tt) in
    let s = field.taken c.args.bytes.now c.args.at c.in_ok-text.text c.in_ok-text.after (λ i. omega (arith, c.type_inv.bytes i)) c.in_ok-text.ensures in
    absurd (let no = c.in-None.ensures.some.1 (rw c.as_str.ensures (s.1.0, s.1.1)) in cc)
