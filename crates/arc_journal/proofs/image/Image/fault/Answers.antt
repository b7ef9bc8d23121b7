-- An image that opens has no fault.
use Rattle.std.proofs.Common.{sym, ◌∙◌}
use Rattle.arc_journal.proofs.Shown.{met_no_fault}
use Rattle.arc_journal.proofs.image.Image.fault.Goals as goal

pub returns-in-None-clause-none : goal.returns-in-None-clause-none
returns-in-None-clause-none c = λ node none.
    met_no_fault node c.args.self.now.bytes.now none c.step.new.self.fault (sym c.loop.invariant ∙ c.in-None.ensures.ended)
