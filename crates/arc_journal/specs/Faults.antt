-- What is wrong with the bytes of an image, and the end of an opening by it.
use Rattle.std.specs.Prelude.{Option, None, Some, Result, Ok, Err}
use Rattle.arc_journal.specs.declared.end.ImageFault.{ImageFault}
use Rattle.arc_journal.specs.declared.end.ImageFault.TheVariants as faults
use Rattle.arc_journal.specs.declared.end.JournalEnd.{JournalEnd}
use Rattle.arc_journal.specs.declared.end.JournalEnd.TheVariants.{NotOurs, Rotten}

-- The end of an opening of bytes with this fault.
abbrev pub end_of : ImageFault → JournalEnd
end_of (faults.NotOurs place) = NotOurs place
end_of (faults.Rotten place stored computed) = Rotten place stored computed

-- The same, where there is a fault.
abbrev pub end_of_found : Option ImageFault → Option JournalEnd
end_of_found None = None
end_of_found (Some fault) = Some (end_of fault)

-- The same, where a look at bytes answered with their fault.
abbrev pub end_of_look : {T : Type 0} → Result T ImageFault → Option JournalEnd
end_of_look (Ok value) = None
end_of_look (Err fault) = Some (end_of fault)
