use Rattle.std.proofs.Common.{ap, ◌∙◌}
use Rattle.arc_script.specs.Words.{number_of}
use Rattle.arc_script.proofs.Numbers.{decimal_is_number, number_is_decimal}
use Rattle.arc_script.proofs.laws.numbers_have_one_spelling.Goals as goal

pub returns : goal.returns
returns c = λ word n small. (λ read. number_is_decimal word n small read, λ spelled. ap number_of spelled ∙ decimal_is_number n small)
