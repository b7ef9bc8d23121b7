use Rattle.std.proofs.Common.{sym, ◌∙◌}
use Rattle.std.proofs.Math.Dec.{lit<}
use Rattle.std.proofs.lemmas.Str.Pattern.{strip_prefix_char}
use Rattle.arc_script.proofs.Marks.{unmarked}
use Rattle.arc_script.proofs.config.read_config.Goals as goal

pub returns-in-None-clause-exact : goal.returns-in-None-clause-exact
returns-in-None-clause-exact c =
    let none = strip_prefix_char 33 c.args.word.now c.strip_prefix.result c.strip_prefix.ensures.cases (lit< tt) in
    c.read_plain-in-None.ensures.exact ∙ sym (unmarked c.args.controls c.args.word.now (rw c.in-None.is at none))
