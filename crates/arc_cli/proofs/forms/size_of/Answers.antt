use Rattle.std.proofs.Common.{◌≡◌, true, sym, rules}
use Rattle.arc_cli.specs.Forms.{is_count}
use Rattle.arc_cli.proofs.Numbers.{above_32_bits}
use Rattle.arc_cli.proofs.forms.size_of.Goals as goal

pub returns-in_default-clause-exact : goal.returns-in_default-clause-exact
returns-in_default-clause-exact c =
    let is : is_count c.args.word.now ≡ true = search rules in
    sym (above_32_bits c.args.word.now c.in_default.field-0 is c.in_default.ensures.value.0)
