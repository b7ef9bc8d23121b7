use Rattle.std.specs.List.{filter_map}
use Rattle.arc_data.specs.Entries.{promised_in}
use Rattle.arc_data.proofs.Promises.{from_zero}
use Rattle.arc_data.proofs.entries.promise.Goals as goal

pub loop-r-init : goal.loop-r-init
loop-r-init c = from_zero (filter_map promised_in c.args.rs.now)
