use Rattle.std.proofs.Common.{refl}
use Rattle.arc_data.proofs.Keys.{get_by_number}
use Rattle.arc_data.proofs.states.States.is_on.Goals as goal

pub returns : goal.returns
returns c =
    let found = get_by_number _ (λ a b. refl) c.self.inside.states c.args.control in
    rw (c.unwrap_or.ensures, c.copied.ensures, c.get.ensures.value, ← found, c.self.view_is) refl
