use Rattle.std.proofs.Common.{arith}
use Rattle.std.proofs.lemmas.Grind.{common_steps}
use Rattle.arc_drill.specs.Lines.{bad_line}
use Rattle.arc_drill.proofs.lines.of_bad_script.Goals as goal

pub returns : goal.returns
unfolding bad_line
returns c = let e = c.name_of-name.ensures in let f = c.in_ok-text.ensures in grind (arith, common_steps)
