-- Each node's answer decides that of some.
use Rattle.std.proofs.Common.{◌↔◌, ◌<◌, ℕ, Bool, IsTrue}
use Rattle.arc_bytes.specs.Five.{at}
use Rattle.arc_bytes.specs.declared.five.Five.{Five}
use Rattle.arc_voting.specs.Journals.{journals_of}
use Rattle.arc_voting.specs.Parts.{VotesAt}
use Rattle.arc_voting.proofs.Three.{below_five}
use Rattle.arc_voting.proofs.Fives.{some_decided}
use Rattle.arc_voting.proofs.settled.some_votes.Goals as goal

pub returns : goal.returns
returns c =
    let five : Five Bool = record {
      d0 = c.node_voted_at.result;
      d1 = c.node_voted_at-2.result;
      d2 = c.node_voted_at-3.result;
      d3 = c.node_voted_at-4.result;
      d4 = c.node_voted_at-5.result;
    } in
    let Q : ℕ → Type 0 = λ n. VotesAt (journals_of c.args.journals.now n) c.args.slot.now.number c.args.ballot in
    let Same : ℕ → Type 0 = λ n. IsTrue (at five n) ↔ Q n in
    let each : (n : ℕ) → n < 5 → Same n =
    below_five Same c.node_voted_at.ensures c.node_voted_at-2.ensures c.node_voted_at-3.ensures c.node_voted_at-4.ensures c.node_voted_at-5.ensures in
    some_decided c.some_of_five.result (λ n. IsTrue (at five n)) Q c.some_of_five.ensures each
