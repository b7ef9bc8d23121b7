use Rattle.std.proofs.Common.{◌+◌}
use Rattle.std.proofs.lemmas.List.{take_rest}
use Rattle.arc_http.proofs.Texts.{behind_last_dot}
use Rattle.arc_http.proofs.target.after_dot.Goals as goal

pub returns-in-Some : goal.returns-in-Some
returns-in-Some c =
    rw (take_rest c.args.value.now (c.in-Some.dot + 1))
    (behind_last_dot c.args.value.now c.in-Some.dot c.in-Some.ensures.0 c.in-Some.ensures.1)
