use Rattle.arc_told.proofs.Done.{done_told}
use Rattle.arc_told.proofs.laws.done_run_is_told.Goals as goal

-- the journals at the end are ones that the nodes may have behind the last step
pub returns : goal.returns
returns c = done_told
