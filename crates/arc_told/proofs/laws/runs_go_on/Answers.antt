use Rattle.arc_told.proofs.Chains.{run_more}
use Rattle.arc_told.proofs.laws.runs_go_on.Goals as goal

-- by the steps before it
pub returns : goal.returns
returns c = run_more
