-- The history settles.
use Rattle.std.proofs.Common.{◌∙◌, ap, sym, subst}
use Rattle.arc_disk.specs.History.{synced}
use Rattle.arc_disk.specs.Laws.{reads_as_left_in_memory}
use Rattle.arc_disk.specs.Past.{standing, MayLeave}
use Rattle.arc_disk.proofs.Calling.{time_passes}
use Rattle.arc_disk.proofs.Settling.{IsSettledAt, sync_settles}
use Rattle.arc_disk.proofs.memory_disk.MemoryDiskDisk.sync.Goals as goal

pub returns-in-Ok-clause-durable : goal.returns-in-Ok-clause-durable
returns-in-Ok-clause-durable c =
    let old = c.args.self.now.history in
    let is = c.sync.ensures ∙ ap synced c.begin.ensures.ticked in
    (subst (IsSettledAt (standing old).content old) (sym is) (sync_settles old c.begin.ensures.in_time c.begin.ensures.clock_later)).only

pub returns-in-Ok-clause-kept : goal.returns-in-Ok-clause-kept
returns-in-Ok-clause-kept c =
    let old = c.args.self.now.history in
    let is = c.sync.ensures ∙ ap synced c.begin.ensures.ticked in
    let settles = subst (IsSettledAt (standing old).content old) (sym is) (sync_settles old c.begin.ensures.in_time c.begin.ensures.clock_later) in
    record { reads = settles.reads; crash = λ image left. subst (MayLeave (standing old)) (sym (settles.only image left)) (reads_as_left_in_memory old) }

pub returns-in-Ok-clause-time : goal.returns-in-Ok-clause-time
returns-in-Ok-clause-time c =
    let old = c.args.self.now.history in
    time_passes c.args.self.now _ _ (c.sync.ensures ∙ ap synced c.begin.ensures.ticked) (sync_settles old c.begin.ensures.in_time c.begin.ensures.clock_later).time
