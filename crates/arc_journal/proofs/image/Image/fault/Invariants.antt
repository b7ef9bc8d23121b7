-- The first fault is that which was met, or is still to be.
use Rattle.std.proofs.Common.{◌≡◌, length}
use Rattle.arc_journal.specs.Views.{bytes_of, image_fault, still_faulty, still_seen}
use Rattle.arc_journal.proofs.image.Image.fault.Given as goal

abbrev pub invariant-loop : goal.invariant-loop
invariant-loop l = still_faulty l.records ≡ image_fault (bytes_of l.self)

abbrev pub decreases-loop : goal.decreases-loop
decreases-loop l = length (still_seen l.records)
