use Rattle.arc_ids.proofs.Uuids.{read_again}
use Rattle.arc_ids.proofs.shift_text.shifts_are_read_again.Goals as goal

pub returns : goal.returns
returns c = read_again
