-- Each node's answer decides that of three.
use Rattle.std.proofs.Common.{ℕ, Bool, ◌↔◌, IsTrue}
use Rattle.arc_bytes.specs.Five.{at}
use Rattle.arc_bytes.specs.declared.five.Five.{Five}
use Rattle.arc_proposer.specs.Counting.{Has}
use Rattle.arc_proposer.proofs.Three.{below_five, with_decided}
use Rattle.arc_proposer.proofs.highest.has_majority.Goals as goal

pub returns : goal.returns
returns c =
    let five : Five Bool = record {
      d0 = c.is_counted.result;
      d1 = c.is_counted-2.result;
      d2 = c.is_counted-3.result;
      d3 = c.is_counted-4.result;
      d4 = c.is_counted-5.result;
    } in
    let Same : ℕ → Type 0 = λ n. IsTrue (at five n) ↔ Has (at c.args.promises.now n) in
    with_decided c.by_three_with.result (λ n. IsTrue (at five n)) (λ n. Has (at c.args.promises.now n)) c.args.endpoint c.requires
    c.by_three_with.ensures
    (below_five Same c.is_counted.ensures c.is_counted-2.ensures c.is_counted-3.ensures c.is_counted-4.ensures c.is_counted-5.ensures)
