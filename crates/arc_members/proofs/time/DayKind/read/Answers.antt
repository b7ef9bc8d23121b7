use Rattle.std.proofs.Common.{ap, ◌∙◌}
use Rattle.std.specs.Option.{ok_or}
use Rattle.std.specs.Result.{result_ok}
use Rattle.serde_json.specs.View.{view}
use Rattle.arc_members.specs.declared.code.Code.TheVariants.{BadDate}
use Rattle.arc_members.proofs.Dates.{date_given}
use Rattle.arc_members.proofs.time.DayKind.read.Goals as goal

pub returns-in-Ok-clause-gives : goal.returns-in-Ok-clause-gives
returns-in-Ok-clause-gives c =
    date_given (view c.args.value.now) c.in_ok-text.text.now c.read_date.result c.in_ok-text.ensures.ok c.read_date.ensures.exact
    ∙ ap (λ r. ok_or (result_ok r) BadDate) c.in-Ok.is

pub returns-in-Err-clause-gives : goal.returns-in-Err-clause-gives
returns-in-Err-clause-gives c =
    let none = date_given (view c.args.value.now) c.in_ok-text.text.now c.read_date.result c.in_ok-text.ensures.ok c.read_date.ensures.exact
    ∙ ap (λ r. ok_or (result_ok r) BadDate) c.in-Err.is in
    rw c.refused.ensures none
