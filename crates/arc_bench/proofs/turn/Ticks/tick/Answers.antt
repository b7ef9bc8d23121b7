use Rattle.arc_bench.proofs.Ticking.{ticks_begin}
use Rattle.arc_bench.proofs.turn.Ticks.tick.Goals as goal

pub returns-then-self-lt18446744073709551615 : goal.returns-then-self-lt18446744073709551615
returns-then-self-lt18446744073709551615 c = ticks_begin c.args.self.now.count
