use Rattle.std.proofs.Common.{ap, ◌∙◌}
use Rattle.std.specs.Option.{ok_or}
use Rattle.std.specs.Result.{result_ok}
use Rattle.serde_json.specs.View.{view}
use Rattle.arc_members.specs.declared.code.Code.TheVariants.{BadWindow}
use Rattle.arc_members.proofs.Windows.{window_given, named_window}
use Rattle.arc_members.proofs.time.WindowKind.read.Goals as goal

pub returns-in-Ok-clause-gives : goal.returns-in-Ok-clause-gives
returns-in-Ok-clause-gives c =
    window_given (view c.args.value.now) c.in_ok-text.text.now c.read_window.result c.in_ok-text.ensures.ok c.read_window.ensures
    ∙ ap (λ r. ok_or (result_ok r) BadWindow) c.in-Ok.is

pub returns-in-Ok-clause-within : goal.returns-in-Ok-clause-within
returns-in-Ok-clause-within c =
    named_window c.in_ok-text.text.now c.in-Ok.window ((c.read_window.ensures c.in-Ok.window).0 c.in-Ok.is)

pub returns-in-Err-clause-gives : goal.returns-in-Err-clause-gives
returns-in-Err-clause-gives c =
    let none = window_given (view c.args.value.now) c.in_ok-text.text.now c.read_window.result c.in_ok-text.ensures.ok c.read_window.ensures
    ∙ ap (λ r. ok_or (result_ok r) BadWindow) c.in-Err.is in
    rw c.refused.ensures none
