use Rattle.std.proofs.Common.{◌≡◌, true, sym, arith, rules}
use Rattle.arc_script.specs.Words.{is_number, number_up_to}
use Rattle.arc_script.proofs.Texts.{above_64_bits}
use Rattle.arc_script.proofs.words.read_number.Goals as goal

pub returns-in_default-clause-exact : goal.returns-in_default-clause-exact
unfolding number_up_to
returns-in_default-clause-exact c =
    let is : is_number c.args.word.now ≡ true = search rules in
    sym (above_64_bits c.args.most c.args.word.now c.in_default.field-0 (omega arith) is c.in_default.ensures.value.0)
