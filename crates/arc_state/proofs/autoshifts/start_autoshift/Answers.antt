use Rattle.arc_state.proofs.Yielding.{start_does}
use Rattle.arc_state.proofs.autoshifts.start_autoshift.Goals as goal

-- the zone is in autoshift
pub returns-in-Ok-clause-does : goal.returns-in-Ok-clause-does
returns-in-Ok-clause-does c =
    start_does c.args.parts.now c.args.zone c.start_autoshift.new.self c.yield_to.new.practices c.in-Ok.ensures c.yield_to.ensures
