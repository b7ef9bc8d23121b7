use Rattle.std.proofs.Common.{rules, ◌≡◌, true, ap}
use Rattle.arc_snapshot.proofs.Adding.{ready_marked, taken_marked, taken_whole}
use Rattle.arc_snapshot.proofs.writing.prepare.Goals as goal

pub returns-then-not-is_whole-clause-taken : goal.returns-then-not-is_whole-clause-taken
returns-then-not-is_whole-clause-taken c = taken_whole _ _ c.args.new.now c.in_ok-take_over.ensures.taken

pub returns-clause-taken : goal.returns-clause-taken
returns-clause-taken c =
    taken_marked _ _ _ _ _ c.take_over.new.kept c.args.new.now c.mark.result (ap (λ d. d.shown.value) c.mark.ensures.shown) c.in_ok-take_over.ensures.taken c.mark.ensures.marked

pub returns-clause-ready : goal.returns-clause-ready
returns-clause-ready c =
    let whole : c.take_over.new.kept.whole ≡ true = search rules in
    ready_marked _ _ _ _ _ c.take_over.new.kept _ c.mark.result c.take_over.ensures.agree whole (ap (λ d. d.shown.value) c.mark.ensures.shown) c.mark.ensures.marked
