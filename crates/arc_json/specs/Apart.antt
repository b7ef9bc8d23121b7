-- Lists that a request gives, in which nothing stands twice.
use Rattle.std.specs.Prelude.{◌≢◌, List, AllPairs}
use Rattle.arc_data.specs.declared.batch.Entry.{Entry}
use Rattle.arc_data.specs.Valid.{HasBetween}

-- from 1 to 16 changes, each of another control
abbrev pub AreChanges : List Entry → Type 0
AreChanges entries = HasBetween 1 16 entries × AllPairs (λ a b. a.control ≢ b.control) entries
