use Rattle.std.proofs.Common.{arith}
use Rattle.arc_http.proofs.Texts.{short_front}
use Rattle.arc_http.proofs.reading.wait_for_head.Goals as goal

pub returns-clause-ranges : goal.returns-clause-ranges
returns-clause-ranges c = λ bytes is. short_front c.args.front.now bytes is (omega arith)
