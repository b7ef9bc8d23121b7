-- The table and the promise so far are those of the entries so far.
use Rattle.std.proofs.Common.{◌≡◌, take}
use Rattle.arc_data.specs.Entries.{promise}
use Rattle.arc_voting.specs.Indexed.{places_of}
use Rattle.arc_voting.proofs.indexed.table_of.Given as goal

abbrev pub invariant-loop-place : goal.invariant-loop-place
invariant-loop-place l = (l.places.items ≡ places_of (take l.place l.records)) × (l.promise ≡ promise (take l.place l.records))
