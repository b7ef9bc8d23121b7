-- Each node's answer decides that of five.
use Rattle.std.proofs.Common.{◌↔◌, ◌<◌, ℕ, Bool, IsTrue}
use Rattle.arc_bytes.specs.Five.{at}
use Rattle.arc_bytes.specs.declared.five.Five.{Five}
use Rattle.arc_voting.specs.Journals.{journals_of}
use Rattle.arc_voting.specs.Parts.{part_of, ChoosesAmong, OfSome}
use Rattle.arc_voting.proofs.Three.{below_five}
use Rattle.arc_voting.proofs.Fives.{some_decided, chosen_iff}
use Rattle.arc_voting.proofs.majority.is_chosen.Goals as goal

pub returns : goal.returns
returns c =
    let five : Five Bool = record {
      d0 = c.is_chosen_by.result;
      d1 = c.is_chosen_by-2.result;
      d2 = c.is_chosen_by-3.result;
      d3 = c.is_chosen_by-4.result;
      d4 = c.is_chosen_by-5.result;
    } in
    let Q : ℕ → Type 0 = λ n. ChoosesAmong (journals_of c.args.journals.now) (part_of (journals_of c.args.journals.now n) (at c.args.slot.now.parts n)) c.args.slot.now.number c.args.command.now in
    let Same : ℕ → Type 0 = λ n. IsTrue (at five n) ↔ Q n in
    let each : (n : ℕ) → n < 5 → Same n =
    below_five Same c.is_chosen_by.ensures c.is_chosen_by-2.ensures c.is_chosen_by-3.ensures c.is_chosen_by-4.ensures c.is_chosen_by-5.ensures in
    let decides : IsTrue c.some_of_five.result ↔ OfSome Q =
    some_decided c.some_of_five.result (λ n. IsTrue (at five n)) Q c.some_of_five.ensures each in
    let iff = chosen_iff (journals_of c.args.journals.now) c.args.slot.now c.args.command.now c.requires in
    (λ is. iff.0 (decides.0 is), λ holds. decides.1 (iff.1 holds))
