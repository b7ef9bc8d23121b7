use Rattle.std.proofs.Common.{◌≡◌, false, sym, ◌∙◌, rules}
use Rattle.arc_script.specs.Lists.{has_double}
use Rattle.arc_script.proofs.Lists.{differs}
use Rattle.arc_script.proofs.items.once.Goals as goal

pub returns-clause-differ : goal.returns-clause-differ
returns-clause-differ g c =
    let none : has_double g.T.Numbered.number_of c.args.items ≡ false = cc in
    differs g.T.Numbered.number_of c.args.items none
