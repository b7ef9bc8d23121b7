use Rattle.std.proofs.Common.{refl}
use Rattle.arc_data.proofs.Keys.{get_by_number}
use Rattle.arc_data.proofs.states.States.has.Goals as goal

pub returns : goal.returns
returns c =
    let found = get_by_number _ (λ a b. refl) c.self.inside.states c.args.control in
    rw (c.contains_key.ensures, ← found, c.self.view_is) refl
