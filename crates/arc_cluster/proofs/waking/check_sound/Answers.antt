use Rattle.std.proofs.Common.{◌<◌, ◌^◌, length, subst, sym, arith}
use Rattle.arc_voting.specs.Journals.{Journals}
use Rattle.arc_cluster.proofs.waking.check_sound.Goals as goal

pub audit-requires : goal.audit-requires
audit-requires g c = λ node lt.
    let limits = c.requires.limits node lt in
    let room = limits.room in
    let most = limits.most in
    subst (λ (js : Journals). length (js node) < 2 ^ 32) (sym c.lists_of.ensures) (omega (arith, room, most))
