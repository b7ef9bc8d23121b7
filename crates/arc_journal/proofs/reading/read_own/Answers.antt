-- The head names this length, or another one.
use Rattle.std.proofs.Common.{subst}
use Rattle.arc_journal.specs.Image.{IsJournalOf}
use Rattle.arc_journal.proofs.Own.{own_faultless, own_of_others}
use Rattle.arc_journal.proofs.reading.read_own.Goals as goal

pub returns-then-opening-max_slots-clause-fault : goal.returns-then-opening-max_slots-clause-fault
returns-then-opening-max_slots-clause-fault c =
    own_of_others c.args.node c.in-Ok.opening.max_slots c.in-Ok.opening.records.items c.args.image.now c.in-Ok.ensures.journal
    c.args.max_slots c.if-opening-max_slots.true

pub returns-clause-fault : goal.returns-clause-fault
returns-clause-fault c =
    own_faultless c.args.node c.args.max_slots c.in-Ok.opening.records.items c.args.image.now
    (subst (λ n. IsJournalOf c.args.node n c.in-Ok.opening.records.items c.args.image.now) c.if-opening-max_slots.false c.in-Ok.ensures.journal)
