use Rattle.std.proofs.Common.{sym, ◌∙◌}
use Rattle.arc_window.proofs.Dates.{names, names_none, number_named}
use Rattle.arc_window.proofs.date.read_date.Goals as goal

-- what is no date's text names no day
pub returns-in_default-clause-exact : goal.returns-in_default-clause-exact
returns-in_default-clause-exact c day = (
  λ read. absurd (cc),
  λ named. absurd (names_none c.args.text.now day c.in_default.ensures.unfound named),
)

-- a date's text names its day
pub returns-in-Some-number_of-clause-exact : goal.returns-in-Some-number_of-clause-exact
returns-in-Some-number_of-clause-exact c day = (
  λ read. names c.in-Some.date c.args.text.now day c.in-Some.ensures.found (c.in-Some-number_of.ensures.number ∙ cc),
  λ named.
      let counted = sym c.in-Some-number_of.ensures.number ∙ number_named c.in-Some.date c.args.text.now day c.in-Some.ensures.found named in
      cc,
)
