-- The records so far were read, each within its limits, and the first fault is that of what follows.
use Rattle.std.proofs.Common.{◌≡◌, ◌-◌, None, length, drop}
use Rattle.arc_journal.specs.Image.{AreWithin, IsReadTo, entries_from, entries_of, fault_in}
use Rattle.arc_journal.proofs.reading.read_records.Given as goal

abbrev pub invariant-loop-view : goal.invariant-loop-view
invariant-loop-view l = record {
  image : l.views.bytes.now ≡ l.image;
  going : l.views.fault ≡ None;
  so_far : IsReadTo l.max_slots l.records.items l.views.place l.image;
  within : AreWithin l.max_slots l.records.items;
  faults : fault_in l.max_slots 0 (entries_of l.image) ≡ fault_in l.max_slots (length l.records.items) (entries_from 0 l.views.place (drop l.views.place l.image));
}

abbrev pub decreases-loop-view : goal.decreases-loop-view
decreases-loop-view l = length l.image - l.views.place
