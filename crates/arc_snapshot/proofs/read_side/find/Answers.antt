use Rattle.arc_snapshot.proofs.Steps.{hears}
use Rattle.arc_snapshot.proofs.read_side.find.Goals as goal

pub enter_as-requires : goal.enter_as-requires
enter_as-requires c = hears _ _
