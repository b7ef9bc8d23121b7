use Rattle.std.proofs.Common.{List, find, ap, ◌∙◌}
use Rattle.std.specs.Option.{option_map}
use Rattle.arc_plain.specs.Rules.{names_control}
use Rattle.arc_rules.specs.declared.rules.Rules.{Rules}
use Rattle.arc_rules.specs.declared.kept.Kept.{Kept}
use Rattle.arc_rules.proofs.Standing.{found_stands}
use Rattle.arc_rules.proofs.rules.Rules.user_of.Goals as goal

pub returns : goal.returns
returns c plain stands =
    c.user_of.ensures
    ∙ ap (λ (l : List Kept). option_map (λ r. r.rule) (find (λ r. names_control r.spec c.args.control) l))
    (c.as_slice.ensures.value ∙ ap (λ (k : Rules). k.rules) c.self.view_is)
    ∙ found_stands c.args.self.now plain (λ rule spec. names_control spec c.args.control) stands
