-- Each node's answer decides that of three.
use Rattle.std.proofs.Common.{ℕ, Bool, ◌↔◌, IsTrue}
use Rattle.arc_bytes.specs.Five.{at}
use Rattle.arc_bytes.specs.declared.five.Five.{Five}
use Rattle.arc_voting.specs.Journals.{journals_of}
use Rattle.arc_voting.specs.Settled.{Settles}
use Rattle.arc_voting.proofs.Three.{below_five, by_three_decided}
use Rattle.arc_voting.proofs.majority.is_settled.Goals as goal

pub returns : goal.returns
returns c =
    let five : Five Bool = record {
      d0 = c.node_settles.result;
      d1 = c.node_settles-2.result;
      d2 = c.node_settles-3.result;
      d3 = c.node_settles-4.result;
      d4 = c.node_settles-5.result;
    } in
    let Same : ℕ → Type 0 = λ n. IsTrue (at five n) ↔
    Settles (journals_of c.args.journals.now n) c.args.slot.now.number c.args.ballot c.args.command.now in
    by_three_decided c.by_three.result (λ n. IsTrue (at five n))
    (λ n. Settles (journals_of c.args.journals.now n) c.args.slot.now.number c.args.ballot c.args.command.now)
    c.by_three.ensures
    (below_five Same c.node_settles.ensures c.node_settles-2.ensures c.node_settles-3.ensures c.node_settles-4.ensures c.node_settles-5.ensures)
