use Rattle.std.proofs.Common.{◌≡◌, true, sym, arith, rules}
use Rattle.arc_members.specs.Times.{begins_above_0}
use Rattle.arc_members.proofs.Numbers.{above_32_bits}
use Rattle.arc_members.proofs.time.positive.Goals as goal

pub returns-in_default-clause-exact : goal.returns-in_default-clause-exact
returns-in_default-clause-exact c =
    let is : begins_above_0 c.args.digits.now ≡ true = search rules in
    sym (above_32_bits c.args.most c.args.digits.now c.in_default.field-0 (omega arith) is c.in_default.ensures.value.0)
