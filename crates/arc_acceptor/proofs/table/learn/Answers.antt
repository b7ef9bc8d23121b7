-- What is to be learned is below the end of the list, beyond it, or at it.
use Rattle.std.proofs.Common.{◌≡◌, ◌<◌, ◌+◌, ℕ, sym, ◌∙◌, ap, subst, arith}
use Rattle.arc_data.specs.Entries.{closed_len}
use Rattle.arc_data.specs.declared.message.Answer.TheVariants.{Behind, Learned}
use Rattle.arc_data.specs.declared.record.Record.TheVariants.{Closed}
use Rattle.arc_voting.specs.Turn.{Turn, answers_only, appends}
use Rattle.arc_acceptor.specs.Answering.{CopiesCommand}
use Rattle.arc_acceptor.specs.declared.progress.Progress.{Progress}
use Rattle.arc_acceptor.proofs.Ends.{ends_below, ends_beyond, ends_here}
use Rattle.arc_acceptor.proofs.table.learn.Goals as goal

pub returns-then-slot-length : goal.returns-then-slot-length
returns-then-slot-length c = λ rs is.
    let length : c.args.progress.length ≡ closed_len rs = ap (λ (p : Progress). p.length) is in
    let below : c.args.slot < closed_len rs = omega (arith, c.if-slot-length.true, length) in
    let here = appends (Closed c.args.slot c.args.command.now) (Learned (closed_len rs + 1)) in
    c.only.ensures ∙ ap (λ (n : ℕ). answers_only (Learned n)) length
    ∙ sym (ends_below rs c.args.slot (answers_only (Learned (closed_len rs))) here below)

pub returns-then-slot-length-2 : goal.returns-then-slot-length-2
returns-then-slot-length-2 c = λ rs is.
    let length : c.args.progress.length ≡ closed_len rs = ap (λ (p : Progress). p.length) is in
    let beyond : closed_len rs < c.args.slot = omega (arith, c.if-slot-length-2.true, length) in
    let here = appends (Closed c.args.slot c.args.command.now) (Learned (closed_len rs + 1)) in
    c.only-then-slot-length-2.ensures ∙ ap (λ (n : ℕ). answers_only (Behind n)) length
    ∙ sym (ends_beyond rs c.args.slot (λ d. answers_only (Learned (closed_len rs))) here beyond)

pub returns-in_default : goal.returns-in_default
returns-in_default c = λ rs is.
    let length : c.args.progress.length ≡ closed_len rs = ap (λ (p : Progress). p.length) is in
    let at_end : c.args.slot ≡ closed_len rs = omega (arith, c.if-slot-length.false, c.if-slot-length-2.false, length) in
    let here = appends (Closed c.args.slot c.args.command.now) (Learned (closed_len rs + 1)) in
    let P : Turn → Type 0 = λ turn. CopiesCommand turn in
    subst P (sym (ends_here rs c.args.slot (λ d. answers_only (Learned (closed_len rs))) here at_end)) tt

pub returns : goal.returns
returns c = λ rs is.
    let length : c.args.progress.length ≡ closed_len rs = ap (λ (p : Progress). p.length) is in
    let at_end : c.args.slot ≡ closed_len rs = omega (arith, c.if-slot-length.false, c.if-slot-length-2.false, length) in
    let here = appends (Closed c.args.slot c.args.command.now) (Learned (closed_len rs + 1)) in
    ap (λ d. appends (Closed c.args.slot d) (Learned (c.args.progress.length + 1))) c.in-Ok.ensures
    ∙ ap (λ (n : ℕ). appends (Closed c.args.slot c.args.command.now) (Learned (n + 1))) length
    ∙ sym (ends_here rs c.args.slot (λ d. answers_only (Learned (closed_len rs))) here at_end)
