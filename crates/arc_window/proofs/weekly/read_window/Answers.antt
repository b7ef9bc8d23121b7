use Rattle.std.proofs.Common.{sym, ap, ◌∙◌}
use Rattle.arc_window.proofs.Weeks.{ok_or_exact, window_exact}
use Rattle.arc_window.specs.Weekly.{window_read}
use Rattle.arc_window.proofs.weekly.read_window.Goals as goal

pub returns : goal.returns
returns c window =
    let bytes = c.window_of.ensures ∙ ap window_read c.as_bytes.ensures.value in
    let same = ok_or_exact c.window_of.result _ c.ok_or.result window c.ok_or.ensures.value in
    let exact = window_exact c.args.text.now window in
    (λ ok. exact.0 (sym bytes ∙ same.0 ok), λ named. same.1 (bytes ∙ exact.1 named))
