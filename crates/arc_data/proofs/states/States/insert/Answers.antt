use Rattle.std.proofs.Common.{refl}
use Rattle.arc_data.proofs.Keys.{insert_by_number}
use Rattle.arc_data.proofs.states.States.insert.Goals as goal

pub returns-clause-ok : goal.returns-clause-ok
returns-clause-ok c =
    rw (← c.self.view_is)
    (insert_by_number _ (λ a b. refl) c.self.inside.states c.insert.new.self c.args.control c.args.on c.in_ok-insert.ensures.updates)
