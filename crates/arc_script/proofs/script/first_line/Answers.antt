use Rattle.std.proofs.Common.{◌==◌, map, ap, add-one, arith}
use Rattle.std.proofs.lemmas.List.{take_rest}
use Rattle.std.specs.Str.Lines.{strip_carriage_return}
use Rattle.arc_script.proofs.Split.{first_part, only_part}
use Rattle.arc_script.proofs.script.first_line.Goals as goal

pub returns-in-Some-clause-lines : goal.returns-in-Some-clause-lines
returns-in-Some-clause-lines c =
    let found = c.in-Some.ensures in
    let parts = first_part (λ b. b == 10) c.args.text.now c.in-Some.end found.0.high (λ k below. found.0.before k (omega arith) below) found.1 in
    rw (take_rest, c.without_cr.ensures, add-one) (ap (map strip_carriage_return) parts)

pub returns-in-None-clause-lines : goal.returns-in-None-clause-lines
returns-in-None-clause-lines c =
    let one = only_part (λ b. b == 10) c.args.text.now (λ k below. c.in-None.ensures k (omega arith) below) in
    rw c.without_cr-in-None.ensures (ap (map strip_carriage_return) one)
