-- Each node's answer decides that of five.
use Rattle.std.proofs.Common.{◌↔◌, ◌<◌, ℕ, Bool, IsTrue}
use Rattle.arc_bytes.specs.Five.{at}
use Rattle.arc_bytes.specs.declared.five.Five.{Five}
use Rattle.arc_voting.specs.Journals.{journals_of}
use Rattle.arc_voting.specs.Parts.{HasNoChosenBelow, OfEach}
use Rattle.arc_voting.proofs.Three.{below_five}
use Rattle.arc_voting.proofs.Fives.{each_decided, not_chosen_iff}
use Rattle.arc_voting.proofs.ids.is_not_chosen_below.Goals as goal

pub returns : goal.returns
returns c =
    let five : Five Bool = record {
      d0 = c.has_no_chosen_below.result;
      d1 = c.has_no_chosen_below-2.result;
      d2 = c.has_no_chosen_below-3.result;
      d3 = c.has_no_chosen_below-4.result;
      d4 = c.has_no_chosen_below-5.result;
    } in
    let Q : ℕ → Type 0 = λ n. HasNoChosenBelow (journals_of c.args.journals.now) (journals_of c.args.journals.now n) c.args.slot c.args.command.now in
    let Same : ℕ → Type 0 = λ n. IsTrue (at five n) ↔ Q n in
    let each : (n : ℕ) → n < 5 → Same n =
    below_five Same c.has_no_chosen_below.ensures c.has_no_chosen_below-2.ensures c.has_no_chosen_below-3.ensures c.has_no_chosen_below-4.ensures c.has_no_chosen_below-5.ensures in
    let decides : IsTrue c.each_of_five.result ↔ OfEach Q =
    each_decided c.each_of_five.result (λ n. IsTrue (at five n)) Q c.each_of_five.ensures each in
    let iff = not_chosen_iff (journals_of c.args.journals.now) c.args.slot c.args.command.now in
    (λ is. iff.0 (decides.0 is), λ holds. decides.1 (iff.1 holds))
