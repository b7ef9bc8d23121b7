use Rattle.std.proofs.Common.{◌≡◌, ◌+◌, ℕ, sym, subst, ap, ◌∙◌, ◌<◌}
use Rattle.arc_bytes.specs.Five.{at}
use Rattle.arc_cluster.specs.Attempts.{has_digit}
use Rattle.arc_cluster.proofs.Digits.{digits}
use Rattle.arc_cluster.proofs.work.digits_of.Goals as goal

pub returns-clause-digits : goal.returns-clause-digits
returns-clause-digits c =
    let h = c.args.holds.now in
    rw (c.value_of.ensures, c.value_of-2.ensures, c.value_of-3.ensures, c.value_of-4.ensures, c.value_of-5.ensures)
    (digits h.d0 h.d1 h.d2 h.d3 h.d4)
