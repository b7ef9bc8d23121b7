use Rattle.arc_plain.proofs.KeptRows.{kept_fold}
use Rattle.arc_plain.proofs.laws.limit_holds.Goals as goal

-- that of the panels, which stand as the controls do
pub returns-clause-panels : goal.returns-clause-panels
returns-clause-panels c = λ commands. (kept_fold commands).panels_within
