use Rattle.std.proofs.Common.{rules, ◌==◌, not}
use Rattle.std.proofs.lemmas.Fn.{filter_same}
use Rattle.arc_panel.proofs.tables.drop_panel.Goals as goal

pub returns-clause-others : goal.returns-clause-others
returns-clause-others c =
    filter_same _ (λ x. not (x.panel.0 == c.args.panel.0)) _ (λ x b g called. (search rules, search rules)) _ _ c.retain.ensures.filtered
