-- Each node's answer decides that of five.
use Rattle.std.proofs.Common.{◌↔◌, ◌<◌, ℕ, Bool, IsTrue}
use Rattle.arc_bytes.specs.Five.{at}
use Rattle.arc_bytes.specs.declared.five.Five.{Five}
use Rattle.arc_voting.specs.Journals.{journals_of}
use Rattle.arc_voting.specs.Parts.{part_of, VotedAreSettled, OfEach}
use Rattle.arc_voting.proofs.Three.{below_five}
use Rattle.arc_voting.proofs.Fives.{each_decided, voted_settled_iff}
use Rattle.arc_voting.proofs.settled.voted_are_settled.Goals as goal

pub returns : goal.returns
returns c =
    let five : Five Bool = record {
      d0 = c.its_votes_are_settled.result;
      d1 = c.its_votes_are_settled-2.result;
      d2 = c.its_votes_are_settled-3.result;
      d3 = c.its_votes_are_settled-4.result;
      d4 = c.its_votes_are_settled-5.result;
    } in
    let Q : ℕ → Type 0 = λ n. VotedAreSettled (journals_of c.args.journals.now) (part_of (journals_of c.args.journals.now n) (at c.args.slot.now.parts n)) c.args.slot.now.number c.args.ballot c.args.command.now in
    let Same : ℕ → Type 0 = λ n. IsTrue (at five n) ↔ Q n in
    let each : (n : ℕ) → n < 5 → Same n =
    below_five Same c.its_votes_are_settled.ensures c.its_votes_are_settled-2.ensures c.its_votes_are_settled-3.ensures c.its_votes_are_settled-4.ensures c.its_votes_are_settled-5.ensures in
    let decides : IsTrue c.each_of_five.result ↔ OfEach Q =
    each_decided c.each_of_five.result (λ n. IsTrue (at five n)) Q c.each_of_five.ensures each in
    let iff = voted_settled_iff (journals_of c.args.journals.now) c.args.slot.now c.args.ballot c.args.command.now c.requires in
    (λ is. iff.0 (decides.0 is), λ holds. decides.1 (iff.1 holds))
