use Rattle.arc_engine.proofs.FiveDisks.{all_ended, all_named, all_open, all_opened, all_refused, still_pass}
use Rattle.arc_engine.proofs.starting.open.Goals as goal

pub returns-in-Ok-false-clause-opened : goal.returns-in-Ok-false-clause-opened
returns-in-Ok-false-clause-opened g c = λ told filled.
    all_opened g.D.Disk c.args.disks c.are_empty.new.disks c.are_empty.ensures.read (λ made. made.nodes) c.adopt.result
    c.in-Ok-false.ensures.no_fault told c.adopt.ensures.opened (c.adopt.ensures.passed told) (c.adopt.ensures.follow told)

pub returns-in-Ok-false-clause-end : goal.returns-in-Ok-false-clause-end
returns-in-Ok-false-clause-end g c =
    all_ended g.D.Disk c.args.disks c.are_empty.new.disks c.are_empty.ensures.read (λ made. made.nodes) c.adopt.result c.adopt.ensures.end

pub returns-in-Ok-false-clause-complete : goal.returns-in-Ok-false-clause-complete
returns-in-Ok-false-clause-complete g c = λ told tests.
    c.adopt.ensures.complete told (still_pass g.D.Disk c.args.disks c.are_empty.new.disks c.are_empty.ensures.read told tests)

pub returns-in-Ok-false-clause-refused : goal.returns-in-Ok-false-clause-refused
returns-in-Ok-false-clause-refused g c =
    all_refused g.D.Disk c.args.disks c.are_empty.new.disks c.are_empty.ensures.read (λ made. made.nodes) c.adopt.result c.adopt.ensures.refused

pub returns-in-Ok-false-clause-named : goal.returns-in-Ok-false-clause-named
returns-in-Ok-false-clause-named g c = λ told filled.
    all_named g.D.Disk c.args.disks c.are_empty.new.disks c.are_empty.ensures.read (λ made. made.nodes) c.adopt.result
    c.in-Ok-false.ensures.no_fault c.adopt.ensures.named

pub returns-in-Ok-false-clause-disks : goal.returns-in-Ok-false-clause-disks
returns-in-Ok-false-clause-disks g c = λ told filled.
    all_open g.D.Disk c.args.disks c.are_empty.new.disks c.are_empty.ensures.read (λ made. made.nodes) c.adopt.result c.adopt.ensures.disks
