use Rattle.std.proofs.Common.{refl}
use Rattle.arc_data.proofs.Keys.{remove_by_number}
use Rattle.arc_data.proofs.states.States.remove.Goals as goal

pub returns : goal.returns
returns c =
    rw (← c.self.view_is)
    (remove_by_number _ (λ a b. refl) c.self.inside.states c.remove.new.self c.args.control c.remove.ensures.updates)
