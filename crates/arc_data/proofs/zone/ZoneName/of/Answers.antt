use Rattle.std.proofs.Common.{◌∙◌, arith}
use Rattle.arc_data.proofs.Zones.{written}
use Rattle.arc_data.proofs.zone.ZoneName.of.Goals as goal

pub invariant_of-result : goal.invariant_of-result
invariant_of-result c =
    written c.args.text.now c.copy_from_slice.new.self (c.copy_from_slice.ensures.after ∙ c.as_bytes.ensures.value)
    (omega arith) (omega arith) c.utf8.text
