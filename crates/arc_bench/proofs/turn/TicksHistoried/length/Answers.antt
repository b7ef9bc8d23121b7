use Rattle.arc_bench.proofs.Ticking.{length_ticks}
use Rattle.arc_bench.proofs.turn.TicksHistoried.length.Goals as goal

pub returns : goal.returns
returns c = length_ticks c.args.self.now.count
