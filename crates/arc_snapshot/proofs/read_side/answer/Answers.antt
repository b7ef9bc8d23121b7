use Rattle.arc_snapshot.proofs.Steps.{enters}
use Rattle.arc_snapshot.proofs.read_side.answer.Goals as goal

pub enter_as-requires : goal.enter_as-requires
enter_as-requires c = enters _ _
