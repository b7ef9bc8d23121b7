-- Where no command is closed and the list doesn't end before the slot, the slot is the open one.
use Rattle.std.proofs.Common.{rules, ◌≡◌, None, sym, ap, subst, arith}
use Rattle.std.specs.List.{slice_get}
use Rattle.arc_data.specs.Entries.{closed_len}
use Rattle.arc_data.specs.declared.message.Answer.TheVariants.{Known}
use Rattle.arc_voting.specs.Lists.{applied}
use Rattle.arc_voting.specs.Turn.{Turn, answers_only, promise_turn}
use Rattle.arc_acceptor.specs.Answering.{IsOutcome}
use Rattle.arc_acceptor.specs.declared.progress.Progress.{Progress}
use Rattle.arc_acceptor.proofs.Ends.{ended, ends_here}
use Rattle.arc_acceptor.proofs.table.prepare.Goals as goal

pub returns : goal.returns
returns c = λ rs is known top.
    let length : c.args.progress.length ≡ closed_len rs = ap (λ (p : Progress). p.length) is in
    let none : slice_get (applied rs) c.args.slot ≡ None = search rules in
    let here : c.args.slot ≡ closed_len rs = ended rs c.args.slot none (omega (arith, c.if-length-slot.false, length)) in
    let P : Turn → Type 0 = λ turn. IsOutcome turn c.promise_here.result in
    subst P (sym (ends_here rs c.args.slot (λ d. answers_only (Known c.args.slot d)) (promise_turn rs c.args.slot c.args.ballot) here))
    (c.promise_here.ensures rs is (top here))
