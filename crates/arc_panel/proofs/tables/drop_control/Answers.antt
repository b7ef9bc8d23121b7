use Rattle.std.proofs.Common.{rules, ◌==◌, not}
use Rattle.std.proofs.lemmas.Fn.{filter_same}
use Rattle.arc_panel.proofs.tables.drop_control.Goals as goal

pub returns-clause-others : goal.returns-clause-others
returns-clause-others c =
    filter_same _ (λ x. not (x.control.0 == c.args.control.0)) _ (λ x b g called. (search rules, search rules)) _ _ c.retain.ensures.filtered
